use Rattle.std.proofs.Common.{arith}
use Rattle.fst_types.specs.declared.number.PatchNo.{PatchNo}
use Rattle.fst_lines.specs.Pieces.{after_comma}
use Rattle.fst_lines.proofs.SendingLemmas.{Sends-err, TakesPart-part}
use Rattle.fst_lines.proofs.output.send_others.Goals as goal

pub returns-in_err-send_other : goal.returns-in_err-send_other
returns-in_err-send_other g c =
    Sends-err _ _ _ _ _ c.from_residual.ensures.1
    (TakesPart-part (λ (p : PatchNo). after_comma p.0) _ _ _ c.args.patches.now c.loop-patch.patch-index _ (omega arith) c.loop-patch.invariant c.in_err-send_other.ensures)
