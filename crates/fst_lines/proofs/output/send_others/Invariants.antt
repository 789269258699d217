use Rattle.std.proofs.Common.{take}
use Rattle.std.specs.List.{flat_map}
use Rattle.std.specs.Io.KnownBytes.{Appends}
use Rattle.fst_types.specs.declared.number.PatchNo.{PatchNo}
use Rattle.fst_lines.specs.Pieces.{after_comma}
use Rattle.fst_lines.proofs.output.send_others.Given as goal

abbrev pub invariant-loop-patch : goal.invariant-loop-patch
invariant-loop-patch g l =
    let contents = g.W.Write.contents in
    Appends (contents l.fn.writer) (contents l.writer) (flat_map (λ (p : PatchNo). after_comma p.0) (take l.patch-index l.patches))
