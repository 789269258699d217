-- A line as far as it was kept.
use Rattle.std.specs.Prelude.{◌≡◌, ℕ, ◌<◌, ◌≤◌, List, length}
use Rattle.fst_lines.specs.Commands.{max_line}
use Rattle.fst_player.specs.declared.line.Line.{Line}
use Rattle.fst_player.specs.declared.line.Line.TheVariants.{Kept, Long, Refused}

-- the line so far has these bytes
abbrev pub Holds : Line → List ℕ → Type 0
Holds (Kept bytes) text = (bytes.items ≡ text) × (length text ≤ max_line)
Holds Long text = max_line < length text
Holds (Refused bytes) text = (bytes ≡ length text) × (0 < length text) × (length text ≤ max_line)
