use Rattle.fst_types.specs.Tests.{is_live}
use Rattle.fst_heads.specs.Heads.{patches_of}
use Rattle.fst_heads.proofs.FirstOnDisk.{IsBetween}
use Rattle.fst_heads.proofs.places.first_on_disk.Given as goal

abbrev pub invariant-loop-live_below : goal.invariant-loop-live_below
invariant-loop-live_below l = IsBetween is_live (patches_of l.heads) l.low l.high l.live_below

abbrev pub decreases-loop-live_below : goal.decreases-loop-live_below
decreases-loop-live_below l = l.high
