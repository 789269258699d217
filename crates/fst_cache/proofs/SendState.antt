-- What a write that goes out leaves: the chosen changes are in flight, and all else stands.
use Rattle.std.proofs.Common.{◌≡◌, ◌≢◌, ◌+◌, ℕ, Bool, true, false, not, cond, List, [], map, filter, Some, None, is_some, refl, sym, ap, subst, ◌∙◌, inl, inr, slice_set, sum_by}
use Rattle.std.specs.Prelude.{◌==◌, ◌&&◌}
use Rattle.std.proofs.lemmas.Bool.{cases_Bool, eqb-true}
use Rattle.std.proofs.lemmas.List.{map-id, map-set, get_or-set_same, get_or-set_other}
use Rattle.std.proofs.lemmas.List.Kept.{AllPairs-from_increasing}
use Rattle.fst_types.specs.declared.number.PatchNo.{PatchNo}
use Rattle.fst_types.specs.declared.place.Place.TheVariants as place
use Rattle.fst_types.specs.Patches.{Kind, Change, Empty, OpenGate, SealedGate, Patch, block_of_kind}
use Rattle.fst_types.specs.Tests.{is_at, is_live, is_on, is_among, is_change_at}
use Rattle.fst_types.specs.State.{State, Flight, BlockState, block_of, committed, flight_of, with_flight}
use Rattle.fst_types.specs.Bytes.{base_under, image_of}
use Rattle.fst_types.specs.Facts.{IsLawful}
use Rattle.fst_types.specs.Writing.{launched}
use Rattle.fst_types.specs.Events.{Issue, Job}
use Rattle.fst_types.specs.Step.{Step, accepted, issue}
use Rattle.fst_types.proofs.Ascends.{ascends_from, ascends_filter, same_items}
use Rattle.fst_types.proofs.Bounds.{step_keeps_lawful}
use Rattle.fst_types.proofs.Dropping.{filter_in, in_filter}
use Rattle.fst_types.proofs.Finite.{In, In-from_Contains, Contains-from_In}
use Rattle.fst_types.proofs.Issuing.{launched_cases, among_in}
use Rattle.fst_types.proofs.Loosened.{loosened}
use Rattle.fst_types.proofs.Landing.{change_at, at_change}
use Rattle.fst_types.proofs.Numbers.{both}
use Rattle.fst_block.specs.BlockView.{BlockView, fold_of}
use Rattle.fst_block.specs.Choices.{chosen_of, others_of}
use Rattle.fst_graph.specs.Known.{Known, Launches}
use Rattle.fst_seat.specs.Names.{numbers_of}
use Rattle.fst_seat.specs.Seats.{SeatView, flight_view, undo_of}
use Rattle.fst_seat.specs.Writing.{sent as seat_sent_out}
use Rattle.fst_cache.specs.declared.cache.Cache.TheInside.{Inside}
use Rattle.fst_cache.specs.Kept.{IsKept, IsKeptSeat, IsSameAt, state_of, block_patch, block_patches, block_view, in_flight}
use Rattle.fst_cache.proofs.Kept.{one_moved}
use Rattle.fst_cache.proofs.SameCascade.{filter_mapped, IsStill, still_self, same_moved}
use Rattle.fst_cache.proofs.SendSet.{early_in_set, chosen_early, others_part, at_home, there, none_flies, writable}
use Rattle.fst_cache.proofs.SendBytes.{MaySend, block_is, loaded_is, image_is}

-- a change of one block is none of another
off : (k : Kind) (b j : ℕ) → block_of_kind k ≡ Some b → j ≢ b → is_on j k ≡ false
off (Change block at len grade) b j on other =
    elim (cases_Bool (block == j)) [ inl same ↦ absurd (other (sym (eqb-true block j same) ∙ some_same block b on)) | inr differ ↦ differ ]
  where
    some_same : (x y : ℕ) → Some x ≡ Some y → x ≡ y
    some_same x y e = cc
off Empty b j on other = refl
off OpenGate b j on other = refl
off SealedGate b j on other = refl

neither : (x y z : Bool) → z ≡ false → (x && z) ≡ (y && z)
neither true true z e = refl
neither true false z e = e
neither false true z e = sym e
neither false false z e = refl

and_false : (x y : Bool) → y ≡ true → (x && not y) ≡ false
and_false true y e = rw e refl
and_false false y e = refl

and_true : (x y : Bool) → y ≡ false → (x && not y) ≡ x
and_true true y e = rw e refl
and_true false y e = refl

-- a patch that goes into flight is to other blocks what it was
still_away : (j : ℕ) (p : Patch) → is_on j p.kind ≡ false → IsStill j p (record p { place = place.Flight })
still_away j p away = record {
  number = refl;
  memory = neither (is_at place.Flight place.Memory) (is_at p.place place.Memory) (is_on j p.kind) away;
  flight = neither (is_at place.Flight place.Flight) (is_at p.place place.Flight) (is_on j p.kind) away;
  live = λ e. neither (is_live p) (is_live (record p { place = place.Flight })) (is_on j p.kind) away ∙ e;
  patch = λ contents. refl;
}

module _ {Slot : Type 0} (i : Inside Slot) {b : ℕ} {seat : SeatView} {names : List PatchNo} (S : MaySend i b seat names)
    {image : List ℕ} (folded : image ≡ image_of (state_of i) b (numbers_of names)) where
  abbrev s : State
  s = state_of i

  abbrev law : IsLawful s
  law = S.kept.lawful

  abbrev flight : Flight
  flight = flight_view (s.tickets + 1) image false 0

  abbrev pub after : State
  after = record s { tickets = s.tickets + 1; heads = map (launched (numbers_of names)) s.heads; blocks = with_flight s b (Some flight) }

  abbrev soon : Patch → Bool
  soon p = is_among (numbers_of names) p.number

  pub step_sent : Step s (Issue b) (Job (s.tickets + 1) b image) after
  step_sent =
      accepted S.clear (issue (record {
        writable = writable s law b names S.choice S.clear;
        home = at_home s law b names S.choice S.clear;
        next = refl;
        chosen = numbers_of names;
        choice = S.choice;
        folded = folded;
        row = refl;
        state = refl;
      }))

  -- the other blocks
  still_launched : (j : ℕ) → j ≢ b → (p : Patch) → In s.heads p → IsStill j p (launched (numbers_of names) p)
  still_launched j other p h =
      elim (launched_cases s.heads s.numbers b (numbers_of names) (loosened law.heads) (writable s law b names S.choice S.clear) S.choice p (Contains-from_In s.heads p h)) [
        | inl m ↦ subst (IsStill j p) (sym m.1) (still_away j p (off p.kind b j m.0.in_memory.change other))
        | inr k ↦ subst (IsStill j p) (sym k.0) (still_self j p)
      ]

  others_same : (j : ℕ) → j ≢ b → IsSameAt s after j
  others_same j other =
      same_moved s after j (launched (numbers_of names))
      (get_or-set_other s.blocks b j (record (block_of s b) { flight = Some flight }) (record { committed = []; flight = None }) other) refl refl (still_launched j other)

  -- the block itself
  block_sent : block_of after b ≡ record (block_of s b) { flight = Some flight }
  block_sent = get_or-set_same s.blocks b (record (block_of s b) { flight = Some flight }) (record { committed = []; flight = None }) (there s law b names S.choice S.clear)

  memory_test : (p : Patch) → In s.heads p → is_change_at place.Memory b (launched (numbers_of names) p) ≡ (is_change_at place.Memory b p && not (soon p))
  memory_test p h =
      elim (cases_Bool (soon p)) [
        | inl now ↦ ap (λ t. is_change_at place.Memory b (cond t (record p { place = place.Flight }) p)) now ∙ sym (and_false (is_change_at place.Memory b p) (soon p) now)
        | inr late ↦ ap (λ t. is_change_at place.Memory b (cond t (record p { place = place.Flight }) p)) late ∙ sym (and_true (is_change_at place.Memory b p) (soon p) late)
      ]

  flight_test : (p : Patch) → In s.heads p → is_change_at place.Flight b (launched (numbers_of names) p) ≡ soon p
  flight_test p h =
      elim (cases_Bool (soon p)) [
        | inl now ↦
            let m = (early_in_set s law b names S.choice p (Contains-from_In s.heads p h) now).in_memory in
            let on = (both (is_at p.place place.Memory) (is_on b p.kind) (at_change place.Memory b p m.change m.memory)).1 in
            ap (λ t. is_change_at place.Flight b (cond t (record p { place = place.Flight }) p)) now ∙ (on ∙ sym now)
        | inr late ↦
            ap (λ t. is_change_at place.Flight b (cond t (record p { place = place.Flight }) p)) late
            ∙ (elim (cases_Bool (is_change_at place.Flight b p)) [
              | inl flies ↦ let k = change_at place.Flight b p flies in absurd (none_flies s law b names S.choice S.clear p (Contains-from_In s.heads p h) k.0 k.1)
              | inr rests ↦ rests
            ]
            ∙ sym late)
      ]

  patch_kept : (p : Patch) → block_patch s.contents (launched (numbers_of names) p) ≡ block_patch s.contents p
  patch_kept p = elim (soon p) as (λ t. block_patch s.contents (cond t (record p { place = place.Flight }) p) ≡ block_patch s.contents p) [ true ↦ refl | false ↦ refl ]

  number_kept : (p : Patch) → (launched (numbers_of names) p).number ≡ p.number
  number_kept p = elim (soon p) as (λ t. (cond t (record p { place = place.Flight }) p).number ≡ p.number) [ true ↦ refl | false ↦ refl ]

  -- it keeps the others in memory
  patches_sent : block_patches after b ≡ others_of names (block_patches s b)
  patches_sent =
      filter_mapped (launched (numbers_of names)) (is_change_at place.Memory b) (λ p. is_change_at place.Memory b p && not (soon p)) (block_patch s.contents) (block_patch s.contents) s.heads memory_test (λ p h. patch_kept p)
      ∙ sym (others_part s law b names S.choice)

  -- and the chosen are those in flight
  flying_chosen : in_flight after b ≡ numbers_of names
  flying_chosen =
      filter_mapped (launched (numbers_of names)) (is_change_at place.Flight b) soon (λ (p : Patch). p.number) (λ (p : Patch). p.number) s.heads flight_test (λ p h. number_kept p)
      ∙ (same_items (λ (p : Patch). p.number) (λ (n : ℕ). n) (λ (p : Patch). p.number) (λ (n : ℕ). n) (filter soon s.heads) (numbers_of names)
      (ascends_filter (λ (p : Patch). p.number) soon s.heads (ascends_from (λ (p : Patch). p.number) s.heads law.heads.one_place_each.rising))
      (ascends_from (λ (n : ℕ). n) (numbers_of names) (AllPairs-from_increasing (numbers_of names) S.choice.rising))
      (λ p h. (p.number, among_in (numbers_of names) p.number (filter_in soon s.heads p h).1, refl))
      (λ n h.
      let r = S.choice.only n (Contains-from_In (numbers_of names) n h) in
      (r.0, in_filter soon s.heads r.0 (In-from_Contains s.heads r.0 r.2.in_memory.head) (chosen_early s law b names S.choice r.0 r.2), r.1))
      (λ p n h k e. e)
      ∙ map-id (numbers_of names))

  abbrev pub sent : SeatView
  sent = seat_sent_out seat (block_view s b) (s.tickets + 1) names image

  pub sent_loaded : is_some sent.loaded ≡ is_some seat.loaded
  sent_loaded = sym (ap (λ o. is_some o) (loaded_is i S))

  view_sent : (l : BlockView) → sent.loaded ≡ Some l → l ≡ block_view after b
  view_sent l e = sym (same_some e) ∙ (ap (λ (x : List ℕ). record { base = x; patches = others_of names (block_patches s b) }) base_sent ∙ ap (λ ps. record { base = base_under (committed after b) (flight_of after b); patches = ps }) (sym patches_sent))
    where
      same_some : {x y : BlockView} → Some x ≡ Some y → x ≡ y
      same_some e = cc

      base_sent : fold_of (block_view s b).base (chosen_of names (block_patches s b)) ≡ base_under (committed after b) (flight_of after b)
      base_sent =
          image_is i S
          ∙ (sym folded ∙ ap (λ (v : BlockState). base_under v.committed v.flight) (sym block_sent))

  seat_sent : IsKeptSeat after b sent
  seat_sent = record {
    loaded = view_sent;
    dirty = λ d. refl;
    home = refl;
    patches = λ f e. sym flying_chosen;
  }

  -- the cache after it, with its graph and the undo bytes that are left
  module _ {graph : Known} (L : Launches i.graph (numbers_of names) graph) (undo : ℕ) where
    abbrev gone : Inside Slot
    gone = record i { tickets = i.tickets + 1; undo = undo; graph = graph; seats = record i.seats { seats = slice_set i.seats.seats b sent } }

    pub state_sent : state_of gone ≡ after
    state_sent = rw (L.row, L.numbers, L.groups, map-set, block_is i S) refl

    pub kept_sent : undo ≡ sum_by undo_of (slice_set i.seats.seats b sent) → IsKept gone
    kept_sent undoing =
        one_moved i gone S.kept b seat S.at_b sent refl refl refl L.blocks
        (subst IsLawful (sym state_sent) (step_keeps_lawful s after (Issue b) (Job (s.tickets + 1) b image) law step_sent)) undoing sent_loaded
        (λ j other. subst (λ (t : State). IsSameAt s t j) (sym state_sent) (others_same j other))
        (subst (λ (t : State). IsKeptSeat t b sent) (sym state_sent) seat_sent)
