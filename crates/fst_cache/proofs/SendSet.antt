-- The writable set of a block, as a choice of the block's patches.
use Rattle.std.proofs.Common.{◌≡◌, ◌<◌, ℕ, Bool, true, false, not, List, [], ◌∷◌, map, filter, All, Contains, Option, Some, None, IsSome, refl, sym, ap, subst, ◌∙◌, inl, inr, arith, rules, length, get_or}
use Rattle.std.specs.Prelude.{◌&&◌}
use Rattle.std.proofs.lemmas.Bool.{cases_Bool, cases_lt}
use Rattle.fst_types.specs.declared.number.PatchNo.{PatchNo}
use Rattle.fst_types.specs.declared.place.Place.TheVariants as place
use Rattle.fst_types.specs.declared.grade.Grade.TheVariants as grade
use Rattle.fst_types.specs.Closure.{one, join}
use Rattle.fst_types.specs.Patches.{Kind, Change, Empty, OpenGate, SealedGate, Patch, IsOn, IsHard, grade_of_kind}
use Rattle.fst_types.specs.Tests.{is_among, is_change_at}
use Rattle.fst_types.specs.State.{State, Flight, flight_of}
use Rattle.fst_types.specs.Bytes.{changes_at, patches_of}
use Rattle.fst_types.specs.Dependencies.{DirectlyOn}
use Rattle.fst_types.specs.Overlaps.{Overlaps}
use Rattle.fst_types.specs.Writable.{IsInMemoryOn, InWritableSet, IsWritableSet, HasReady, IsWritable}
use Rattle.fst_types.specs.Facts.{IsLawful}
use Rattle.fst_types.specs.Events.{Issue}
use Rattle.fst_types.specs.Order.{order}
use Rattle.fst_types.specs.Refusals.{NoneHolds}
use Rattle.fst_types.proofs.Finite.{In, In-get_or, In-from_Contains, Contains-from_In, In-map}
use Rattle.fst_types.proofs.GateGains.{In-unmap}
use Rattle.fst_types.proofs.Dropping.{filter_in, in_filter}
use Rattle.fst_types.proofs.Ascends.{filter_within}
use Rattle.fst_types.proofs.Crash.{same_number}
use Rattle.fst_types.proofs.Issuing.{among_in, in_among}
use Rattle.fst_types.proofs.Landing.{change_at, at_change}
use Rattle.fst_types.proofs.Numbers.{clash, memory_disk}
use Rattle.fst_block.specs.BlockView.{BlockPatch}
use Rattle.fst_block.specs.Choices.{ShareByte, IsChoice, chosen_of, others_of, is_chosen}
use Rattle.fst_seat.specs.Names.{numbers_of}
use Rattle.fst_cache.specs.Kept.{grade_in, block_patch, block_patches}

-- a test of mapped items
pub filter_mapped : {X Y : Type 0} (f : X → Y) (t : Y → Bool) (xs : List X) → filter t (map f xs) ≡ map f (filter (λ x. t (f x)) xs)
filter_mapped f t [] = refl
filter_mapped f t (x ∷ xs) =
    let rest = filter_mapped f t xs in
    elim (cases_Bool (t (f x))) [ inl passes ↦ rw (passes, rest) refl | inr fails ↦ rw (fails, rest) refl ]

-- a grade that is hard is that of a hard change
hard_kind : (k : Kind) → grade_in k ≡ grade.Hard → grade_of_kind k ≡ Some grade.Hard
hard_kind (Change block at len g) e = ap Some e
hard_kind Empty e = cc
hard_kind OpenGate e = cc
hard_kind SealedGate e = cc

not_some : (o : Option Flight) → (IsSome o → ⊥) → o ≡ None
not_some None h = refl
not_some (Some x) h = absurd (h (search rules))

none_some : (f : Flight) → None ≡ Some f → ⊥
none_some f e = cc

and_true : (x y : Bool) → (y ≡ true → x ≡ true) → (x && y) ≡ y
and_true true y f = refl
and_true false true f = f refl
and_true false false f = refl

module _ (s : State) (law : IsLawful s) (b : ℕ) (names : List PatchNo) (choice : IsWritableSet s.heads b (numbers_of names)) where
  abbrev pub early : Patch → Bool
  early p = is_among (numbers_of names) p.number

  -- a chosen number is that of a patch of the writable set
  pub in_set : (p : Patch) → Contains s.heads p → Contains (numbers_of names) p.number → InWritableSet s.heads b p
  in_set p h c =
      let r = choice.only p.number c in
      subst (InWritableSet s.heads b) (same_number s.heads r.0 p law.heads.one_place_each.rising r.2.in_memory.head h r.1) r.2

  pub early_in_set : (p : Patch) → Contains s.heads p → early p ≡ true → InWritableSet s.heads b p
  early_in_set p h e = in_set p h (Contains-from_In (numbers_of names) p.number (among_in (numbers_of names) p.number e))

  pub chosen_early : (p : Patch) → InWritableSet s.heads b p → early p ≡ true
  chosen_early p w = in_among (numbers_of names) p.number (In-from_Contains (numbers_of names) p.number (choice.each p.number (p, refl, w)))

  -- the patches that the block keeps are its changes in memory
  pub kept_of : (q : BlockPatch) → Contains (block_patches s b) q → (p : Patch) × IsInMemoryOn s.heads b p × (block_patch s.contents p ≡ q)
  kept_of q h =
      let r = In-unmap (block_patch s.contents) (changes_at s place.Memory b) q (In-from_Contains (block_patches s b) q h) in
      let m = filter_in (is_change_at place.Memory b) s.heads r.0 r.1 in
      let k = change_at place.Memory b r.0 m.1 in
      (r.0, record { head = Contains-from_In s.heads r.0 m.0; change = k.0; memory = k.1 }, r.2)

  pub of_kept : (p : Patch) → IsInMemoryOn s.heads b p → In (changes_at s place.Memory b) p
  of_kept p m = in_filter (is_change_at place.Memory b) s.heads p (In-from_Contains s.heads p m.head) (at_change place.Memory b p m.change m.memory)

  -- an earlier change that a chosen one overlaps is chosen too, since that one depends on it
  pulled : (p q : Patch) → IsInMemoryOn s.heads b p → p.number < q.number → Overlaps p q → InWritableSet s.heads b q → InWritableSet s.heads b p
  pulled p q m lt over w =
      let named = law.heads.overlaps_are_ordered p q m.head w.in_memory.head lt (λ d. memory_disk p.place m.memory d) over in
      let direct : DirectlyOn s.heads q.number p.number = record { patch = q; head = w.in_memory.head; numbered = refl; named = named } in
      record {
        in_memory = m;
        free = λ bl. w.free (record { gate = bl.gate; head = bl.head; is_open = bl.is_open; depends = join (one direct) bl.depends });
        needs = λ r c n. w.needs r c (record { head = n.head; change = n.change; depends = join (one direct) n.depends });
      }

  -- what is chosen of the block's patches are the patches with the chosen numbers
  pub chosen_part : chosen_of names (block_patches s b) ≡ map (block_patch s.contents) (patches_of s (numbers_of names))
  chosen_part =
      filter_mapped (block_patch s.contents) (is_chosen names) (changes_at s place.Memory b)
      ∙ ap (map (block_patch s.contents)) (filter_within early (is_change_at place.Memory b) early s.heads (λ p h.
      and_true (is_change_at place.Memory b p) (early p) (λ e. let m = (early_in_set p (Contains-from_In s.heads p h) e).in_memory in at_change place.Memory b p m.change m.memory)))

  pub others_part : others_of names (block_patches s b) ≡ map (block_patch s.contents) (filter (λ p. is_change_at place.Memory b p && not (early p)) s.heads)
  others_part =
      filter_mapped (block_patch s.contents) (λ q. not (is_chosen names q)) (changes_at s place.Memory b)
      ∙ ap (map (block_patch s.contents)) (filter_within (λ p. not (early p)) (is_change_at place.Memory b) (λ p. is_change_at place.Memory b p && not (early p)) s.heads (λ p h. refl))

  -- where a write of the block may go out
  module _ (clear : NoneHolds (order s (Issue b))) where
    pub at_home : flight_of s b ≡ None
    at_home = not_some (flight_of s b) clear.1.0

    pub there : b < length s.blocks
    there = elim (cases_lt b (length s.blocks)) [ inl lt ↦ lt | inr past ↦ absurd (clear.0 past) ]

    pub ready : HasReady s.heads b
    ready = some_of (numbers_of names) refl
      where
        some_of : (ns : List ℕ) → ns ≡ numbers_of names → HasReady s.heads b
        some_of [] e = absurd (clear.1.1.0 (λ r. absurd (subst (λ (ns : List ℕ). In ns r.0.number) (sym e) (In-from_Contains (numbers_of names) r.0.number (choice.each r.0.number (r.0, refl, r.1))))))
        some_of (n ∷ ns) e =
            let r = choice.only n (subst (λ (ms : List ℕ). Contains ms n) e (0, omega arith, refl)) in
            (r.0, r.2)

    pub none_flies : (p : Patch) → Contains s.heads p → IsOn p b → p.place ≡ place.Flight → ⊥
    none_flies p h on f =
        let k = law.flights_have_changes.kept b p (record { head = h; change = on; flight = f }) in
        none_some k.0 (sym at_home ∙ k.1)

    -- no hard change is held, so each is chosen
    pub hard_in_set : (p : Patch) → IsInMemoryOn s.heads b p → IsHard p → InWritableSet s.heads b p
    hard_in_set p m hard =
        elim (cases_Bool (early p)) [
          | inl soon ↦ early_in_set p m.head soon
          | inr late ↦ absurd (clear.1.1.1.0 (p, record { in_memory = m; hard = hard; left_out = λ w. clash (early p) (chosen_early p w) late }))
        ]

    pub writable : IsWritable s.heads b
    writable = record { none_flies = none_flies; some = ready; hard = hard_in_set }

    known : All (λ n. Contains (map (λ (q : BlockPatch). q.number) (block_patches s b)) n) (numbers_of names)
    known = λ i d lt.
        let n = get_or (numbers_of names) i d in
        let r = choice.only n (Contains-from_In (numbers_of names) n (In-get_or (numbers_of names) i d lt)) in
        let h = In-map (block_patch s.contents) (changes_at s place.Memory b) r.0 (block_patch s.contents r.0) (of_kept r.0 r.2.in_memory) refl in
        Contains-from_In (map (λ (q : BlockPatch). q.number) (block_patches s b)) n (In-map (λ (q : BlockPatch). q.number) (block_patches s b) (block_patch s.contents r.0) n h r.1)

    pub is_choice : IsChoice (block_patches s b) names
    is_choice = record {
      rising = choice.rising;
      known = known;
      hard = λ q h e.
          let r = kept_of q h in
          let w = hard_in_set r.0 r.1 (hard_kind r.0.kind (ap (λ (x : BlockPatch). x.grade) r.2 ∙ e)) in
          choice.each q.number (r.0, ap (λ (x : BlockPatch). x.number) r.2, w);
      earlier = λ p q hp hq chosen lt share.
          let k = kept_of p hp in
          let l = kept_of q hq in
          let w = in_set l.0 l.1.head (subst (Contains (numbers_of names)) (sym (ap (λ (x : BlockPatch). x.number) l.2)) chosen) in
          choice.each p.number (k.0, ap (λ (x : BlockPatch). x.number) k.2, pulled k.0 l.0 k.1 (lower k.0 l.0 p q k.2 l.2 lt) (over k.0 l.0 p q k.1 l.1 k.2 l.2 share) w);
    }
      where
        lower : (o u : Patch) (p q : BlockPatch) → block_patch s.contents o ≡ p → block_patch s.contents u ≡ q → p.number < q.number → o.number < u.number
        lower o u p q e f lt = let m = ap (λ (x : BlockPatch). x.number) e in let n = ap (λ (x : BlockPatch). x.number) f in omega (arith, m, n, lt)

        over : (o u : Patch) (p q : BlockPatch) → IsInMemoryOn s.heads b o → IsInMemoryOn s.heads b u → block_patch s.contents o ≡ p → block_patch s.contents u ≡ q → ShareByte p.span q.span → Overlaps o u
        over o u p q m n e f share =
            let at_o = ap (λ (x : BlockPatch). x.span.at) e in
            let len_o = ap (λ (x : BlockPatch). x.span.len) e in
            let at_u = ap (λ (x : BlockPatch). x.span.at) f in
            let len_u = ap (λ (x : BlockPatch). x.span.len) f in
            let a = share.first_begins in
            let c = share.first_ends in
            let d = share.second_begins in
            let g = share.second_ends in
            record { block = b; first = m.change; second = n.change; starts_before = omega (arith, at_o, at_u, len_u, a, g); ends_after = omega (arith, at_o, len_o, at_u, c, d) }
