-- A new change for a group: what it leaves of its own block and of the others.
use Rattle.std.proofs.Common.{◌≡◌, ◌≢◌, ℕ, List, [], ◌∷◌, ◌++◌, Some, length, ap, inl, inr}
use Rattle.fst_types.specs.declared.grade.Grade.{Grade}
use Rattle.fst_types.specs.Grouping.{MakesMember}
use Rattle.fst_types.specs.State.{State}
use Rattle.fst_types.specs.Facts.{IsLawful}
use Rattle.fst_types.proofs.Parts.{SealsIfOpen, MemberInParts, member_in_parts}
use Rattle.fst_types.proofs.Passing.{begins}
use Rattle.fst_block.specs.BlockView.{BlockPatch, BlockView}
use Rattle.fst_seat.specs.Seats.{SeatView}
use Rattle.fst_cache.specs.Kept.{IsSameAt, IsKeptSeat, span_of}
use Rattle.fst_cache.proofs.Kept.{moved}
use Rattle.fst_cache.proofs.MakeChanged.{IsNumbered, seat_put, same_else}
use Rattle.fst_cache.proofs.GroupSame.{same_then, same_begin, same_depend, same_regrouped}

-- where the head was sealed the bytes are kept, and no number was given
record IsBegun (s t : State) : Type 0 where
  contents : t.contents ≡ s.contents
  numbers : t.numbers ≡ s.numbers

begun_of : (s t : State) (g : ℕ) → SealsIfOpen s g t → IsBegun s t
begun_of s t g (inl m) = record { contents = ap (λ (u : State). u.contents) m.state; numbers = ap (λ (u : State). u.numbers) m.state }
begun_of s t g (inr stays) = record { contents = ap (λ (u : State). u.contents) stays.1; numbers = ap (λ (u : State). u.numbers) stays.1 }

module _ (s t : State) (law : IsLawful s) (n b at number : ℕ) (bytes : List ℕ) (grade : Grade) (made : MakesMember s n b at bytes number grade t) where
  m : MemberInParts s n b at bytes number grade t
  m = member_in_parts s n b at bytes number grade t made

  abbrev put : BlockPatch
  put = record { number = number; span = span_of at (length bytes); grade = grade; bytes = bytes }

  given : IsNumbered m.begun
  given =
      let B = begun_of s m.begun n m.begin in
      record {
        heads = λ p h. ((begins s n m.begun m.begin law.heads).heads.one_place_each.numbered p h).1;
        contents = λ e h. rw B.numbers (law.changes_fit.given e (rw B.contents at h));
      }

  -- what follows the change leaves each block
  same_end : (j : ℕ) → IsSameAt m.with_change t j
  same_end j = same_then m.with_change m.tied t j (same_depend m.with_change m.tied m.group.tail (number ∷ []) j m.tie) (same_regrouped m.tied t _ j m.state)

  pub same_other : (j : ℕ) → j ≢ b → IsSameAt s t j
  same_other j other =
      same_then s m.begun t j (same_begin s m.begun n j law.heads m.begin)
      (same_then m.begun m.with_change t j
      (same_else m.begun m.with_change given b at number bytes m.change.row.dependencies grade m.change.row.next m.change.row.added (ap (λ (u : State). u.contents) m.change.state) (ap (λ (u : State). u.blocks) m.change.state) j other)
      (same_end j))

  pub seat_joined : (seat : SeatView) → IsKeptSeat s b seat → (view : BlockView) → seat.loaded ≡ Some view → IsKeptSeat t b (record seat { loaded = Some (record view { patches = view.patches ++ put ∷ [] }) })
  seat_joined seat k view there =
      moved m.with_change t b _ (same_end b)
      (seat_put m.begun m.with_change given b at number bytes m.change.row.dependencies grade m.change.row.next m.change.row.added (ap (λ (u : State). u.contents) m.change.state) (ap (λ (u : State). u.blocks) m.change.state)
      seat (moved s m.begun b seat (same_begin s m.begun n b law.heads m.begin) k) view there)
