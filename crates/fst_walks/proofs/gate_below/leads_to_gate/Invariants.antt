use Rattle.std.proofs.Common.{◌≡◌, ℕ, IfSome}
use Rattle.fst_heads.specs.{Grading.HasUnder, Heads.patches_of, Indices.HasIndex}
use Rattle.fst_walks.proofs.gate_below.leads_to_gate.Given as goal

-- the step leads to what is at or below the row
abbrev pub invariant-loop : goal.invariant-loop
invariant-loop l = IfSome l.next (λ s. (q : ℕ) × HasIndex l.sight.heads.now.list.items q s.index × HasUnder (patches_of l.sight.heads.now.list.items) l.row (λ m. m ≡ q))
