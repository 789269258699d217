use Rattle.std.proofs.Common.{[], ◌∷◌, Contains, get_or, subst, sym, take, arith, inl, inr}
use Rattle.std.proofs.lemmas.{List.{take_all, take_more}, List.Elements.Contains-push_cases}
use Rattle.fst_heads.specs.{Grading.LeadsNowhere, Heads.patches_of}
use Rattle.fst_levels.proofs.OwnBlock.{nowhere_each}
use Rattle.fst_levels.proofs.shortcuts.waits_for_own_block.Goals as goal

pub loop-number-preserved : goal.loop-number-preserved
loop-number-preserved c n k =
    let row = c.args.row.now in
    let at = c.loop-number.number-index in
    elim (Contains-push_cases (take at row) (get_or row at 0) n (subst (λ ns. Contains ns n) (take_more row at 0 c.loop-number-test.true) k)) [
      | inl old ↦ c.loop-number.invariant n old
      | inr new ↦ subst (λ m. LeadsNowhere (patches_of c.args.sight.now.heads.now.list.items) c.args.block (m ∷ [])) new (c.waits_for_own.ensures c.if-not-waits_for_own.false)
    ]

pub returns : goal.returns
returns c yes_it =
    let row = c.args.row.now in
    nowhere_each (patches_of c.args.sight.now.heads.now.list.items) c.args.block row (λ n k. c.loop-number.invariant n (subst (λ ns. Contains ns n) (sym (take_all c.loop-number.number-index row (omega (arith, c.loop-number-test.false)))) k))
