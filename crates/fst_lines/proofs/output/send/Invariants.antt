use Rattle.std.proofs.Common.{length, ◌-◌, ◌≤◌, take}
use Rattle.std.specs.Io.KnownBytes.{Appends}
use Rattle.fst_lines.proofs.output.send.Given as goal

-- what was taken so far is at the writer's end
abbrev pub invariant-loop-at : goal.invariant-loop-at
invariant-loop-at g l =
    let contents = g.W.Write.contents in
    record {
      within : l.at ≤ length l.bytes;
      sent : Appends (contents l.fn.writer) (contents l.writer) (take l.at l.bytes);
    }

abbrev pub decreases-loop-at : goal.decreases-loop-at
decreases-loop-at g l = length l.bytes - l.at
