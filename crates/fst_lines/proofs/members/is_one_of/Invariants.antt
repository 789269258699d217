use Rattle.std.proofs.Common.{◌≡◌, drop, map, List, ℕ, Bor}
use Rattle.fst_lines.specs.Members.{is_one_of}
use Rattle.fst_lines.proofs.members.is_one_of.Given as goal

abbrev pub invariant-loop-name : goal.invariant-loop-name
invariant-loop-name l = is_one_of (map (λ (n : Bor (List ℕ)). n.now) (drop l.name-index l.names)) l.key ≡ is_one_of (map (λ (n : Bor (List ℕ)). n.now) l.names) l.key
