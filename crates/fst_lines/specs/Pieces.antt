-- The text of a reply's pieces.
use Rattle.std.specs.Prelude.{ℕ, List, [], ◌∷◌, ◌++◌, decimal}
use Rattle.std.specs.List.{flat_map}
use Rattle.hex.specs.Hex.{encode_lower}
use Rattle.fst_lines.specs.Parsing.{patch_numbers}
use Rattle.fst_lines.specs.declared.output.Piece.{Piece}
use Rattle.fst_lines.specs.declared.output.Piece.TheVariants.{Text, Number, Patches, Hex}

abbrev pub after_comma : ℕ → List ℕ
after_comma n = 44 ∷ decimal n

-- decimal numbers with commas between them
abbrev pub commas : List ℕ → List ℕ
commas [] = []
commas (n ∷ ns) = decimal n ++ flat_map after_comma ns

abbrev pub text_of_piece : Piece → List ℕ
text_of_piece (Text s) = s.now
text_of_piece (Number n) = decimal n
text_of_piece (Patches ps) = commas (patch_numbers ps.now)
text_of_piece (Hex bytes) = encode_lower bytes.now

abbrev pub text_of_pieces : List Piece → List ℕ
text_of_pieces ps = flat_map text_of_piece ps
