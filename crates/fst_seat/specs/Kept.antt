-- What the type of one block's seat keeps.
use Rattle.std.specs.Prelude.{◌≡◌, ◌<◌, ◌≤◌, ℕ, List, IfSome, IsSome, IsNone, length, vec_len}
use Rattle.fst_types.specs.Limits.{max_tries}
use Rattle.fst_seat.specs.declared.seat.Seat.TheInside.{Inside}

-- the slot at home is the block's, and holds what is committed; it is away while a write is out, and only then; and the block's bytes in memory
-- and those of the write are as many. A write that is out has a try left, and a completion that waits is of this write
pub record IsKept {Slot : Type 0} (held : Slot → List ℕ) (index size : Slot → ℕ) (s : Inside Slot) : Type 0 where
  pub slot : IfSome s.slot (λ slot. (held slot ≡ s.committed.items) × (index slot ≡ s.block.0) × (size slot ≡ length s.committed.items))
  pub loaded : IfSome s.loaded (λ block. length block.base ≡ length s.committed.items)
  pub home : IsNone s.out → IsSome s.slot
  pub away : IsSome s.out → IsNone s.slot
  pub out : IfSome s.out (λ write. (vec_len write.image ≡ length s.committed.items) × (IsNone write.back → write.failed < max_tries) × IfSome write.back (λ done. (done.image ≡ write.image.items) × (done.block ≡ s.block.0) × (write.failed ≤ max_tries)))
