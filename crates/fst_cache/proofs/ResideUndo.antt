-- The undo bytes of the seats together are those of the state, and they are few.
use Rattle.std.proofs.Common.{◌≡◌, ◌<◌, ◌≤◌, ◌+◌, ◌*◌, ℕ, Bool, true, false, cond, List, [], ◌∷◌, map, filter, Option, Some, None, refl, sym, ap, ◌∙◌, inl, inr, arith, length, slice_get, sum_by}
use Rattle.std.specs.Prelude.{◌==◌, ◌&&◌}
use Rattle.std.specs.Option.{option_map_or}
use Rattle.std.proofs.lemmas.Bool.{cases_Bool, and_right}
use Rattle.std.proofs.lemmas.List.{length-map}
use Rattle.std.proofs.lemmas.List.Sums.{sum_by-cons}
use Rattle.fst_types.specs.declared.place.Place.{Place}
use Rattle.fst_types.specs.declared.place.Place.TheVariants as place
use Rattle.fst_types.specs.declared.grade.Grade.TheVariants as grade
use Rattle.fst_types.specs.Patches.{Kind, Change, Empty, OpenGate, SealedGate, Patch, IsOn, block_of_kind, len_of}
use Rattle.fst_types.specs.Tests.{is_at, is_on, is_soft, is_change_at}
use Rattle.fst_types.specs.State.{State}
use Rattle.fst_types.specs.Bytes.{changes_at}
use Rattle.fst_types.specs.Counts.{undo_bytes}
use Rattle.fst_types.proofs.Finite.{In, Contains-from_In}
use Rattle.fst_block.specs.BlockView.{BlockPatch, BlockView, len_if_soft, soft_lengths}
use Rattle.fst_seat.specs.Seats.{SeatView, undo_of}
use Rattle.fst_cache.specs.declared.cache.Cache.TheInside.{Inside}
use Rattle.fst_cache.specs.Kept.{IsKept, state_of, grade_in, block_patch, block_patches}
use Rattle.fst_seat.proofs.Counts.{sum_below, sum_by_places, below_add, below_none, below_same, below_one}
use Rattle.fst_cache.proofs.ResideSeats.{clean, no_changes}

sum_mapped : {X Y : Type 0} (f : Y → ℕ) (h : X → Y) (xs : List X) → sum_by f (map h xs) ≡ sum_by (λ (x : X). f (h x)) xs
sum_mapped f h [] = refl
sum_mapped f h (x ∷ xs) = sum_by-cons f (h x) (map h xs) ∙ (ap (λ (n : ℕ). f (h x) + n) (sum_mapped f h xs) ∙ sym (sum_by-cons (λ y. f (h y)) x xs))

sum_passed : {X : Type 0} (t : X → Bool) (f : X → ℕ) (x : X) (xs : List X) → sum_by f (filter t (x ∷ xs)) ≡ cond (t x) (f x) 0 + sum_by f (filter t xs)
sum_passed t f x xs =
    elim (cases_Bool (t x)) [
      | inl passes ↦ rw passes (sum_by-cons f x (filter t xs))
      | inr fails ↦ rw fails (omega arith)
    ]

same_number : (c : ℕ) → (c == c) ≡ true
same_number c = grind arith

other_number : (c k : ℕ) → (k ≡ c → ⊥) → (c == k) ≡ false
other_number c k differs = elim (cases_Bool (c == k)) [ inl same ↦ absurd (differs (grind (arith, same))) | inr other ↦ other ]

-- what a patch counts where it is in memory
abbrev worth : Kind → ℕ
worth k = len_if_soft (grade_in k) (len_of k)

abbrev on_block : Kind → Place → ℕ → ℕ
on_block k q b = cond (is_at q place.Memory && is_on b k) (worth k) 0

change_counts : (n c at len : ℕ) (g : grade.the_data) → c < n → sum_below (on_block (Change c at len g) place.Memory) n ≡ len_if_soft g len
change_counts n c at len g lt =
    below_one (on_block (Change c at len g) place.Memory) n c lt (λ k below differs. ap (λ t. cond t (len_if_soft g len) 0) (other_number c k differs))
    ∙ ap (λ t. cond t (len_if_soft g len) 0) (same_number c)

-- it counts once, for its block
one_block : (n : ℕ) (k : Kind) (q : Place) → ((b : ℕ) → block_of_kind k ≡ Some b → b < n)
    → sum_below (on_block k q) n ≡ cond (is_soft k && is_at q place.Memory) (len_of k) 0
one_block n k place.Flight inside = below_none (on_block k place.Flight) n (λ b lt. refl) ∙ sym (ap (λ t. cond t (len_of k) 0) (and_right (is_soft k) false refl))
one_block n k place.Disk inside = below_none (on_block k place.Disk) n (λ b lt. refl) ∙ sym (ap (λ t. cond t (len_of k) 0) (and_right (is_soft k) false refl))
one_block n (Change c at len grade.Soft) place.Memory inside = change_counts n c at len grade.Soft (inside c refl)
one_block n (Change c at len grade.Hard) place.Memory inside = change_counts n c at len grade.Hard (inside c refl)
one_block n Empty place.Memory inside = below_none (on_block Empty place.Memory) n (λ b lt. refl)
one_block n OpenGate place.Memory inside = below_none (on_block OpenGate place.Memory) n (λ b lt. refl)
one_block n SealedGate place.Memory inside = below_none (on_block SealedGate place.Memory) n (λ b lt. refl)

abbrev counts_on : List Patch → ℕ → ℕ
counts_on ps b = sum_by (λ (p : Patch). worth p.kind) (filter (is_change_at place.Memory b) ps)

abbrev is_kept_for_undo : Patch → Bool
is_kept_for_undo p = is_soft p.kind && is_at p.place place.Memory

-- block by block, or patch by patch
all_blocks : (n : ℕ) (ps : List Patch) → ((p : Patch) (b : ℕ) → In ps p → IsOn p b → b < n)
    → sum_below (counts_on ps) n ≡ sum_by (λ (p : Patch). len_of p.kind) (filter is_kept_for_undo ps)
all_blocks n [] inside = below_none (counts_on []) n (λ b lt. refl)
all_blocks n (p ∷ ps) inside =
    let rest = all_blocks n ps (λ q b h. inside q b (inr h)) in
    let one = one_block n p.kind p.place (λ b on. inside p b (inl refl) on) in
    below_same (counts_on (p ∷ ps)) (λ b. on_block p.kind p.place b + counts_on ps b) n (λ b. sum_passed (is_change_at place.Memory b) (λ (q : Patch). worth q.kind) p ps)
    ∙ (below_add (on_block p.kind p.place) (counts_on ps) n
    ∙ (omega (arith, rest, one) ∙ sym (sum_passed is_kept_for_undo (λ (q : Patch). len_of q.kind) p ps)))

short_sum : (ps : List Patch) → ((p : Patch) → In ps p → len_of p.kind ≤ 4096) → sum_by (λ (p : Patch). len_of p.kind) (filter is_kept_for_undo ps) ≤ length ps * 4096
short_sum [] short = omega arith
short_sum (p ∷ ps) short =
    let rest = short_sum ps (λ q h. short q (inr h)) in
    let this = short p (inl refl) in
    rw (sum_passed is_kept_for_undo (λ (q : Patch). len_of q.kind) p ps)
    (elim (cases_Bool (is_kept_for_undo p)) [
      | inl passes ↦ rw passes (omega (arith, rest, this))
      | inr fails ↦ rw fails (omega (arith, rest))
    ])

short_kind : (k : Kind) → ((b : ℕ) → block_of_kind k ≡ Some b → len_of k ≤ 4096) → len_of k ≤ 4096
short_kind (Change c at len g) short = short c refl
short_kind Empty short = omega arith
short_kind OpenGate short = omega arith
short_kind SealedGate short = omega arith

module _ {Slot : Type 0} (i : Inside Slot) (K : IsKept i) where
  abbrev s : State
  s = state_of i

  abbrev seats : List SeatView
  seats = i.seats.seats

  view_undo : (b : ℕ) → soft_lengths (block_patches s b) ≡ counts_on s.heads b
  view_undo b = sum_mapped (λ (q : BlockPatch). len_if_soft q.grade q.span.len) (block_patch s.contents) (changes_at s place.Memory b)

  at_seat : (b : ℕ) (seat : SeatView) → slice_get seats b ≡ Some seat → undo_of seat ≡ counts_on s.heads b
  at_seat b seat at_b = by_loaded seat.loaded refl
    where
      by_loaded : (o : Option BlockView) → seat.loaded ≡ o → option_map_or (λ (l : BlockView). soft_lengths l.patches) o 0 ≡ counts_on s.heads b
      by_loaded None away = sym (ap (sum_by (λ (p : Patch). worth p.kind)) (no_changes i K b seat at_b (clean i K b seat at_b away)))
      by_loaded (Some l) is = ap (λ (v : BlockView). soft_lengths v.patches) ((K.seat b seat at_b).loaded l is) ∙ view_undo b

  -- the seats' undo bytes are the state's
  pub undo_is : sum_by undo_of seats ≡ undo_bytes s
  undo_is =
      sum_by_places undo_of (counts_on s.heads) seats at_seat
      ∙ (ap (sum_below (counts_on s.heads)) (sym (length-map seats (λ (t : SeatView). t.block)))
      ∙ all_blocks (length s.blocks) s.heads (λ p b h on. (K.lawful.changes_fit.inside p b (Contains-from_In s.heads p h) on).0))

  -- no head has more bytes than a block, and the heads are few
  pub undo_short : undo_bytes s ≤ 268431360
  undo_short =
      let sum = short_sum s.heads (λ p h. short_kind p.kind (λ b on. fits p b h on)) in
      let few = K.lawful.limits.heads in
      omega (arith, sum, few)
    where
      fits : (p : Patch) (b : ℕ) → In s.heads p → IsOn p b → len_of p.kind ≤ 4096
      fits p b h on =
          let inside = (K.lawful.changes_fit.inside p b (Contains-from_In s.heads p h) on).2 in
          let small = K.small in
          omega (arith, inside, small)
