use Rattle.std.proofs.Common.{◌∙◌, not, sym, ap, inl, inr}
use Rattle.std.proofs.lemmas.Bool.{cases_Bool, false≢true, not-true}
use Rattle.fst_levels.proofs.NearRow.{passes_here, here_passes}
use Rattle.fst_heads.specs.{Heads.patch_of, Tests.passes}
use Rattle.fst_heads.specs.declared.test.Test.TheVariants as test
use Rattle.fst_walks.proofs.first_away.goes_through.Goals as goal

pub returns-then-not-passes : goal.returns-then-not-passes
returns-then-not-passes c n index =
    let off = here_passes c.args.sight.now.heads.now.list.items c.args.sight.now.heads.now.rising n c.args.index c.index.result.now index (test.LiveOff c.args.block) in
    let under = c.is_under_hard.ensures n index in (
      λ e. record {
        own = λ x. false≢true (sym c.if-not-passes.true ∙ (c.passes.ensures ∙ (ap (λ h. passes (test.LiveOff c.args.block) (patch_of h)) c.index.ensures ∙ off x)));
        free = λ k. false≢true (sym (not-true c.is_under_hard.result e) ∙ under.1 k);
      },
      λ g. elim (cases_Bool c.is_under_hard.result) [
        | inl kept ↦ absurd (g.free (under.0 kept))
        | inr free ↦ ap not free
      ],
    )

pub returns-else-not-passes : goal.returns-else-not-passes
returns-else-not-passes c n index = (
  λ e. absurd (false≢true (sym (not-true c.passes.result e) ∙ c.if-not-passes.false)),
  λ g. absurd (g.own (passes_here c.args.sight.now.heads.now.list.items c.args.sight.now.heads.now.rising n c.args.index c.index.result.now index (test.LiveOff c.args.block) (sym (c.passes.ensures ∙ ap (λ h. passes (test.LiveOff c.args.block) (patch_of h)) c.index.ensures) ∙ c.if-not-passes.false))),
)
