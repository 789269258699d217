use Rattle.std.proofs.Common.{◌≡◌, vec_capacity}
use Rattle.std.proofs.lemmas.List.Filters.{FiltersInPlace}
use Rattle.fst_levels.proofs.KeptLive.{live_rank}
use Rattle.fst_levels.proofs.ranks.keep_live.Given as goal

-- of the ranks before the index those of live heads stand in front
abbrev pub invariant-loop-index : goal.invariant-loop-index
invariant-loop-index l = record {
  kept : FiltersInPlace (live_rank l.heads.list.items) l.initial.ranks.items l.ranks.items l.kept l.index;
  capacity : vec_capacity l.ranks ≡ vec_capacity l.initial.ranks;
}
