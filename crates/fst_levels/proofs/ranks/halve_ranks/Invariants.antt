use Rattle.std.proofs.Common.{◌≡◌, ◌++◌, map, take, drop}
use Rattle.fst_levels.specs.Leveling.{halved_rank}
use Rattle.fst_levels.proofs.ranks.halve_ranks.Given as goal

abbrev pub invariant-loop-rank : goal.invariant-loop-rank
invariant-loop-rank l = l.rank-items ≡ map halved_rank (take l.rank-index l.fn.ranks.items) ++ drop l.rank-index l.fn.ranks.items
