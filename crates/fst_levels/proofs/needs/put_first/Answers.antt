use Rattle.std.proofs.lemmas.Grind.{common_steps}
use Rattle.std.proofs.Common.{◌∷◌, [], Contains, subst, sym, arith}
use Rattle.std.proofs.lemmas.List.{Elements.Contains-append_left}
use Rattle.fst_levels.proofs.needs.put_first.Goals as goal

pub returns-then-len-capacity-clause-kept : goal.returns-then-len-capacity-clause-kept
returns-then-len-capacity-clause-kept c n k =
    subst (λ ns. Contains ns n) (sym c.push_reserved.ensures.items) (Contains-append_left c.args.list.now.items (c.args.number ∷ []) n k)

pub returns-then-len-capacity-clause-only : goal.returns-then-len-capacity-clause-only
returns-then-len-capacity-clause-only c = grind (arith, common_steps)
