use Rattle.fst_types.specs.Tests.{is_live}
use Rattle.fst_heads.specs.Heads.{patches_of}
use Rattle.fst_heads.proofs.LastOnDisk.{IsLastBetween}
use Rattle.fst_heads.proofs.places.end_on_disk.Given as goal

abbrev pub invariant-loop-left : goal.invariant-loop-left
invariant-loop-left l = IsLastBetween is_live (patches_of l.heads) l.first l.index l.end l.left

abbrev pub decreases-loop-left : goal.decreases-loop-left
decreases-loop-left l = l.end
