use Rattle.std.proofs.Common.{◌≡◌, ◌++◌, drop, List, ℕ}
use Rattle.std.specs.Prelude.{option_map}
use Rattle.serde_json.specs.View.{items_view}
use Rattle.fst_lines.specs.Members.{numbers_of}
use Rattle.fst_lines.specs.Parsing.{patch_numbers}
use Rattle.fst_lines.proofs.members.patches.Given as goal

abbrev pub invariant-loop-value : goal.invariant-loop-value
invariant-loop-value l = option_map (λ (ns : List ℕ). patch_numbers l.patches.items ++ ns) (numbers_of (items_view (drop l.value-index l.values))) ≡ numbers_of (items_view l.values)
