use Rattle.std.proofs.Common.{◌≡◌, ◌++◌, List, ℕ}
use Rattle.std.specs.Prelude.{option_map}
use Rattle.json.specs.Token.{Token}
use Rattle.fst_lines.specs.Parsing.{patch_numbers}
use Rattle.fst_lines.specs.Short.{list_of}
use Rattle.fst_lines.proofs.names.take_list.Given as goal

abbrev pub invariant-loop : goal.invariant-loop
invariant-loop l = option_map (λ (p : List ℕ × List Token). (patch_numbers l.patches.items ++ p.0, p.1)) (list_of l.reader) ≡ list_of l.fn.reader
