use Rattle.std.proofs.Common.{get_or, inr, arith}
use Rattle.std.proofs.lemmas.Grind.{common_steps}
use Rattle.std.proofs.lemmas.List.Elements.{Contains-get_or}
use Rattle.fst_types.specs.{Closure.one}
use Rattle.fst_levels.proofs.ancestors.off_at.Goals as goal

pub returns-then-passes_at-2-clause-under : goal.returns-then-passes_at-2-clause-under
returns-then-passes_at-2-clause-under c q h e =
    let few = c.newest_few-below-items.result.now in
    let i = c.loop-below.below-index in
    inr (one (c.row_below.ensures (get_or few i 0) (c.newest_few-below-items.ensures.only (get_or few i 0) (Contains-get_or few i 0 (omega (arith, c.loop-below-test.true))))))

pub returns-then-passes_at-clause-off : goal.returns-then-passes_at-clause-off
returns-then-passes_at-clause-off c = grind (arith, common_steps)

pub returns-then-passes_at-2-clause-off : goal.returns-then-passes_at-2-clause-off
returns-then-passes_at-2-clause-off c = grind (arith, common_steps)
