use Rattle.std.proofs.Common.{ℕ, Contains, get_or}
use Rattle.std.proofs.lemmas.List.Elements.{Contains-get_or}
use Rattle.fst_heads.specs.Indices.{HasIndex}
use Rattle.fst_walks.proofs.GateBelow.{of_either, of_some}
use Rattle.fst_walks.proofs.gate_below.shortest.Goals as goal

pub loop-number-preserved : goal.loop-number-preserved
loop-number-preserved c =
    let heads = c.args.sight.now.heads.now.list.items in
    let row = c.args.row.now in
    let few = c.newest_few-number-items.result.now in
    let at = c.loop-number.number-index in
    let named = c.newest_few-number-items.ensures.only (get_or few at 0) (Contains-get_or few at 0 c.loop-number-test.true) in
    of_either (λ s. (q : ℕ) × Contains row q × HasIndex heads q s.index) c.loop-number.best c.step_to.result c.shorter-best.result c.shorter-best.ensures c.loop-number.invariant
    (of_some (λ s. HasIndex heads (get_or few at 0) s.index) (λ s. (q : ℕ) × Contains row q × HasIndex heads q s.index) c.step_to.result (λ s is here. (get_or few at 0, named, here)) c.step_to.ensures)
