use Rattle.std.proofs.Common.{take}
use Rattle.std.specs.Io.KnownBytes.{Appends}
use Rattle.fst_lines.specs.Pieces.{text_of_pieces}
use Rattle.fst_lines.proofs.output.send_all.Given as goal

abbrev pub invariant-loop-piece : goal.invariant-loop-piece
invariant-loop-piece g l =
    let contents = g.W.Write.contents in
    Appends (contents l.fn.writer) (contents l.writer) (text_of_pieces (take l.piece-index l.pieces))
