-- What they cite of patches, from one place: the words of fst_types and its lemmas on them. It declares nothing.
pub use Rattle.fst_types.proofs.Cascades.{no_follower_on, all_settled, Settled, AllSettled, more}
pub use Rattle.fst_types.proofs.Crash.{same_number}
pub use Rattle.fst_types.proofs.Dropping.{filter_in, in_filter, sparse_dropped}
pub use Rattle.fst_types.proofs.Finite.{In-from_Contains, Contains-from_In, In-map, In, first_step, In-get_or, In_decided, pull}
pub use Rattle.fst_types.proofs.GateGains.{In-unmap}
pub use Rattle.fst_types.proofs.Issuing.{among_in, in_among}
pub use Rattle.fst_types.proofs.NewChange.{IsWithin, old_head, target_small, depends_old, needs_old, hard_kept}
pub use Rattle.fst_types.specs.Cascade.{Follows, IsCascadeOf, unsettled, RestsOnDisk, placed_as}
pub use Rattle.fst_types.specs.Dependencies.{DirectlyOn, DependsOn, IsLiveNumber, IsOnDisk}
pub use Rattle.fst_types.specs.Facts.{SparseAreLawful, IsOnDiskWithAll, HasOnePlaceEach}
pub use Rattle.fst_types.specs.Gates.{IsOpenNumber, IsGiven}
pub use Rattle.fst_types.specs.Gating.{gains, sealed}
pub use Rattle.fst_types.specs.Grades.{IsGradedHard, FollowsRule}
pub use Rattle.fst_types.specs.Limits.{max_heads, max_number}
pub use Rattle.fst_types.specs.Lists.{Lists}
pub use Rattle.fst_types.specs.Making.{fresh}
pub use Rattle.fst_types.specs.Patches.{Patch, Change, IsRising as Rising, block_of_kind, SealedGate, Kind, IsOn, IsLive, at_of, len_of, OpenGate, Empty, IsHard}
pub use Rattle.fst_types.specs.Tests.{is_at, is_live, is_change_at, is_on, is_among}
pub use Rattle.fst_types.specs.Writing.{landed, launched}
pub use Rattle.fst_types.specs.declared.grade.Grade.{Grade}
pub use Rattle.fst_types.specs.declared.number.PatchNo.{PatchNo}
pub use Rattle.fst_types.specs.declared.place.Place.{Place}
pub use Rattle.fst_types.specs.declared.place.Place.TheVariants as place
