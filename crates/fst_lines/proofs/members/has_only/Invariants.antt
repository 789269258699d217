use Rattle.std.proofs.Common.{◌≡◌, map, List, ℕ, Bor}
use Rattle.serde_json.specs.View.{view, members_view}
use Rattle.fst_lines.specs.Members.{only, has_only}
use Rattle.fst_lines.proofs.members.has_only.Given as goal

abbrev pub invariant-loop-key : goal.invariant-loop-key
invariant-loop-key l =
    let names = map (λ (n : Bor (List ℕ)). n.now) l.names in
    only names (members_view l.key-iterator) ≡ has_only names (view l.value)
