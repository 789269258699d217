use Rattle.std.proofs.Common.{◌≡◌, ℕ, Some, IfSome, refl, inl, subst}
use Rattle.fst_heads.specs.{Grading.{HasUnder, IsOpenBut}, Heads.patches_of, Indices.HasIndex, declared.head.Head.Head}
use Rattle.fst_walks.proofs.GateBelow.{of_some, other_gate, under_has, under_on}
use Rattle.fst_walks.proofs.gate_below.leads_to_gate.Goals as goal

pub loop-init : goal.loop-init
loop-init c = of_some _ _ c.shortest-next.result (λ s is at. (at.0, at.2, (at.0, at.1, inl refl))) c.shortest-next.ensures

pub returns-then-is_other_gate : goal.returns-then-is_other_gate
returns-then-is_other_gate c yes_it =
    let heads = c.args.sight.now.heads.now.list.items in
    let row = c.args.row.now in
    let at = subst (λ o. IfSome o (λ s. (q : ℕ) × HasIndex heads q s.index × HasUnder (patches_of heads) row (λ m. m ≡ q))) c.in-Some.is c.loop.invariant in
    let s = c.in-Some.step.index in
    let d : Head = c.index.result.now in
    under_has (patches_of heads) row (IsOpenBut (patches_of heads) (Some c.args.gate)) at.0 at.2
    (other_gate heads c.args.sight.now.heads.now.rising at.0 s c.args.gate at.1 d c.index.ensures c.is_other_gate.result c.is_other_gate.ensures c.if-is_other_gate.true)

pub loop-preserved : goal.loop-preserved
loop-preserved c =
    let heads = c.args.sight.now.heads.now.list.items in
    let row = c.args.row.now in
    let at = subst (λ o. IfSome o (λ s. (q : ℕ) × HasIndex heads q s.index × HasUnder (patches_of heads) row (λ m. m ≡ q))) c.in-Some.is c.loop.invariant in
    of_some _ _ c.step_on-next.result (λ s is on. (on.0, on.1, under_on (patches_of heads) row at.0 on.0 at.2 (on.2 at.0 at.1))) c.step_on-next.ensures
