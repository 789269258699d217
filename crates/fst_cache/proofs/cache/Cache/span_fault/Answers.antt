use Rattle.std.proofs.lemmas.Grind.{common_steps}
use Rattle.std.proofs.Common.{arith, ◌≡◌, ◌∙◌, ◌<◌, ◌+◌, ◌⊎◌, ℕ, Some, length, slice_get, refl, sym, inl, inr, ◌≤◌}
use Rattle.std.proofs.lemmas.Bool.{cases_lt, true≢false}
use Rattle.std.proofs.lemmas.List.{length-map}
use Rattle.fst_types.specs.State.{State}
use Rattle.fst_types.specs.Counts.{dirty_blocks}
use Rattle.fst_types.specs.Residence.{HasNoRoom}
use Rattle.fst_cache.proofs.SettleFound.{lost_at, not_lost_at}
use Rattle.fst_cache.proofs.cache.Cache.span_fault.Goals as goal

-- either there is no room or there is
room_of : (s : State) (b : ℕ) → ((HasNoRoom s b → ⊥) → ⊥) → HasNoRoom s b
room_of s b h = record {
  clean = λ d. h (λ r. r.clean d);
  full = elim (cases_lt (dirty_blocks s) s.resident) [ inl lt ↦ absurd (h (λ r. let k = r.full in omega (arith, lt, k))) | inr le ↦ le ];
}

pub returns-then-is_lost : goal.returns-then-is_lost
returns-then-is_lost g c =
    let seated : slice_get c.self.inside.seats.seats c.args.block.0 ≡ Some c.seat.result.now = c.seat.ensures.at in
    let lost = lost_at c.self.inside _ _ seated (sym c.is_lost.ensures ∙ c.if-is_lost.true) in
    rw (← c.self.view_is, length-map) (inr ((λ h. omega arith), inr ((λ h. omega arith), inl (lost, refl))))

pub returns-then-not-has_room : goal.returns-then-not-has_room
returns-then-not-has_room g c =
    let seated : slice_get c.self.inside.seats.seats c.args.block.0 ≡ Some c.seat.result.now = c.seat.ensures.at in
    let kept = not_lost_at c.self.inside _ _ seated (sym c.is_lost.ensures ∙ c.if-is_lost.false) in
    let no_room = room_of c.args.self.now.state c.args.block.0 (λ free. true≢false (sym (c.has_room.ensures.1 free) ∙ c.if-not-has_room.true)) in
    let fits : (length c.args.bytes.now ≡ 0) ⊎ (c.self.inside.size < c.args.at + length c.args.bytes.now) → ⊥ = λ h. elim h [ inl e ↦ grind (arith, e, c.is_empty.ensures, c.if-is_empty.false) | inr l ↦ omega (arith, l) ] in
    rw (← c.self.view_is, length-map) (inr ((λ h. omega arith), inr ((λ h. omega arith), inr (kept, inr (fits, inl (rw (← c.self.view_is) at no_room, refl))))))

pub seat-requires : goal.seat-requires
seat-requires g c = omega (arith, c.if-block-len.false, c.len.ensures)

pub has_room-requires : goal.has_room-requires
has_room-requires g c = rw (← c.self.view_is, length-map) (omega (arith, c.if-block-len.false, c.len.ensures))

pub overflow_sub-size : goal.overflow_sub-size
overflow_sub-size g c = c.if-bytes-size.false

pub returns : goal.returns
returns g c =
    let seated : slice_get c.self.inside.seats.seats c.args.block.0 ≡ Some c.seat.result.now = c.seat.ensures.at in
    let room = rw (← c.self.view_is) at (c.has_room.ensures.0 c.if-not-has_room.false) in
    rw (← c.self.view_is)
    (record {
      counts = λ h. omega (arith, h, c.made.ensures, c.if-made-eq18446744073709551615.false);
      there = λ h. let past : length c.self.inside.seats.seats ≤ c.args.block.0 = rw length-map at h in omega (arith, past, c.if-block-len.false, c.len.ensures);
      kept = not_lost_at c.self.inside _ _ seated (sym c.is_lost.ensures ∙ c.if-is_lost.false);
      fits = λ h. elim h [ inl e ↦ grind (arith, e, c.is_empty.ensures, c.if-is_empty.false) | inr l ↦ omega (arith, l) ];
      room = room;
    })

pub returns-then-block-len : goal.returns-then-block-len
returns-then-block-len g c = grind (arith, common_steps)
