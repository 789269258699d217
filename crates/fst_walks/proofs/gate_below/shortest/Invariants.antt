use Rattle.std.proofs.Common.{ℕ, Contains, IfSome}
use Rattle.fst_heads.specs.Indices.{HasIndex}
use Rattle.fst_walks.proofs.gate_below.shortest.Given as goal

abbrev pub invariant-loop-number : goal.invariant-loop-number
invariant-loop-number l = IfSome l.best (λ s. (q : ℕ) × Contains l.row q × HasIndex l.sight.heads.now.list.items q s.index)
