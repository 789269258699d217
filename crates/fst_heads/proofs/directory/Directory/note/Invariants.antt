use Rattle.std.proofs.Common.{◌-◌, length, vec_capacity}
use Rattle.fst_heads.proofs.directory.Directory.note.Given as goal

abbrev pub decreases-loop-self : goal.decreases-loop-self
decreases-loop-self l = vec_capacity l.self.places - length l.self.places.items
