use Rattle.std.proofs.Common.{decimal}
use Rattle.std.specs.List.{flat_map}
use Rattle.fst_types.specs.declared.number.PatchNo.{PatchNo}
use Rattle.fst_lines.specs.Pieces.{after_comma}
use Rattle.fst_lines.proofs.SendingLemmas.{Sends-err, Sends-then, TakesPart-longer, commas-patches}
use Rattle.fst_lines.proofs.output.send_patches.Goals as goal

pub returns-in_err-send_number : goal.returns-in_err-send_number
returns-in_err-send_number g c =
    rw (c.in-Some.ensures.cases.0, commas-patches c.in-Some.first.now c.in-Some.others.now)
    (Sends-err _ _ _ _ _ c.from_residual.ensures.1 (TakesPart-longer _ _ _ (flat_map (λ (p : PatchNo). after_comma p.0) c.in-Some.others.now) (rw c.from.ensures at c.in_err-send_number.ensures)))

pub returns : goal.returns
returns g c =
    rw (c.in-Some.ensures.cases.0, commas-patches c.in-Some.first.now c.in-Some.others.now)
    (Sends-then _ _ _ _ (decimal c.in-Some.first.now.0) (flat_map (λ (p : PatchNo). after_comma p.0) c.in-Some.others.now) (rw c.from.ensures at c.in_ok-send_number.ensures) c.send_others.ensures)
