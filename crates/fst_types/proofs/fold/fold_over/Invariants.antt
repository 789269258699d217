use Rattle.std.proofs.Common.{◌≡◌, map, length, drop}
use Rattle.fst_types.specs.Fold.{fold}
use Rattle.fst_types.specs.Overwrites.{write_seen}
use Rattle.fst_types.proofs.fold.fold_over.Given as goal

-- what is left to write gives the same as all over the bytes at the start
abbrev pub invariant-loop-write : goal.invariant-loop-write
invariant-loop-write l = record {
  size : length l.block ≡ length l.fn.block;
  same : fold l.block (map write_seen (drop l.write-index l.writes)) ≡ fold l.fn.block (map write_seen l.writes);
}
