-- The words that the contracts of this crate are in, for its proofs, from one place. It declares nothing.
pub use Rattle.fst_heads.specs.Covers.{Covering, IsOver, IsCovered, AreCovered, AreParted, AreRising, Covers, HasRoomForRuns, IsPut, SaysTheSame, last_in, newest_in, newest_over, max_from, GainsTouched}
pub use Rattle.fst_heads.specs.declared.cover.Run.{Run}
pub use Rattle.fst_heads.specs.Frames.{frame_of, frames_of, HasRoomBelow}
pub use Rattle.fst_heads.specs.Grading.{HasUnder, IsReturning, IsLeading, MayBeHard}
pub use Rattle.fst_heads.specs.Heads.{IsRising, patches_of, patch_of, kind_of}
pub use Rattle.fst_heads.specs.Keeps.{IsInside, Beside, Keeps}
pub use Rattle.fst_heads.specs.Landed.{AreLanded, flags, is_landed}
pub use Rattle.fst_heads.specs.Lists.{Entry, AreListed, flying_on, is_live_on, entries_on, entries_of, entry, entry_of}
pub use Rattle.fst_heads.specs.Indices.{HasIndex, HasNone, PassesAt}
pub use Rattle.fst_heads.specs.Names.{numbers_of}
pub use Rattle.fst_heads.specs.Nodes.{Node, at_number, linked_to, gains_names, pending_in, node_of, nodes_of, patches_in, AreSettled, AreLinked, AreGiven, AreDistinct, is_forgotten_in, is_live_in, HasRoomAbove, times}
pub use Rattle.fst_heads.specs.Pendings.{joined, of_kind, sums_of, Sinks, Rises, IsOf, is_pending, meet, join, of_change, Fits, plus, minus, together, nothing, max_block, height, joined_sums, of_mean, is_even, HasIn}
pub use Rattle.fst_heads.specs.Rows.{IsSparseRow, IsMissing, Gains, touches, IsTouched, IsDependency, kind_touches, shares}
pub use Rattle.fst_heads.specs.Spreading.{Spreading, now, is_recorded, is_waiting, seals, IsSpreadOf, unspread, lands, follows, rested, launches, recorded, notified, CanUpdate, enqueued, unrisen, IsRisenOf, updated, enqueues, enqueued_sealed}
pub use Rattle.fst_heads.specs.Standings.{is_ready_on, is_held_on, is_flying_on, held_on, AllStand, LieAsTold, NoneHeldBelow, standing_of, readied, released, ready_on, entered, sent, arrived, may_be_written}
pub use Rattle.fst_heads.specs.Stretches.{LiesIn, LieIn, nowhere, widened}
pub use Rattle.fst_heads.specs.Tests.{is_hard_kind, is_live_place, kind_passes}
pub use Rattle.fst_heads.specs.declared.head.Head.{Head}
pub use Rattle.fst_heads.specs.declared.lists.Listed.{Listed}
pub use Rattle.fst_heads.specs.declared.pending.Pending.{Pending}
pub use Rattle.fst_heads.specs.declared.pending.Sums.{Sums}
pub use Rattle.fst_heads.specs.declared.standing.Standing.{Standing}
pub use Rattle.fst_heads.specs.declared.stretch.Stretch.{Stretch}
pub use Rattle.fst_heads.specs.declared.pending.Pending.TheVariants as pending
