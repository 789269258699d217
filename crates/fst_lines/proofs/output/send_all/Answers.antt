use Rattle.std.proofs.Common.{arith}
use Rattle.fst_lines.specs.Pieces.{text_of_piece}
use Rattle.fst_lines.proofs.SendingLemmas.{Sends-err, TakesPart-part}
use Rattle.fst_lines.proofs.output.send_all.Goals as goal

pub returns-in_err-send_piece : goal.returns-in_err-send_piece
returns-in_err-send_piece g c =
    Sends-err _ _ _ _ _ c.from_residual.ensures.1
    (TakesPart-part text_of_piece _ _ _ c.args.pieces.now c.loop-piece.piece-index _ (omega arith) c.loop-piece.invariant c.in_err-send_piece.ensures)
