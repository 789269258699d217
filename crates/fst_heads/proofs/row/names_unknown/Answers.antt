use Rattle.fst_heads.proofs.{Basics.{◌∙◌, refl, sym, false≢true}, Rows.{name_in, none_unknown}}
use Rattle.fst_heads.proofs.row.names_unknown.Goals as goal

pub returns-then-not-is_given : goal.returns-then-not-is_given
returns-then-not-is_given c =
    (λ e. (_, name_in c.args.names.now c.loop-name.name-index (record { 0 = 0 }) c.loop-name-test.true, λ g. false≢true (sym c.if-not-is_given.true ∙ c.is_given.ensures.1 g)), λ u. refl)

pub returns : goal.returns
returns c = ((λ e. cc), λ u. absurd (none_unknown c.args.numbers c.args.names.now c.loop-name.name-index c.loop-name-test.false c.loop-name.invariant u))
