-- What holds along a run: blocks are the first state's bytes with the run's changes over them, and the heads are those of its changes.
use Rattle.std.proofs.Common.{◌≡◌, ℕ, ◌<◌, ◌≤◌, Bool, true, false, not, List, [], ◌∷◌, ◌++◌, length, map, filter, Contains, refl, sym, ap, subst, ◌∙◌, inl, inr, arith}
use Rattle.std.specs.Prelude.{◌==◌, ◌&&◌}
use Rattle.std.proofs.lemmas.Bool.{eqb-true}
use Rattle.std.proofs.lemmas.List.{append-nil}
use Rattle.std.proofs.lemmas.List.Elements.{filter-append}
use Rattle.fst_types.specs.declared.place.Place.TheVariants as place
use Rattle.fst_types.specs.Patches.{Patch, IsOn, IsLive}
use Rattle.fst_types.specs.Fold.{Write, fold}
use Rattle.fst_types.specs.State.{State, committed}
use Rattle.fst_types.specs.Bytes.{content_of}
use Rattle.fst_types.specs.Dependencies.{IsOnDisk}
use Rattle.fst_types.specs.Overlaps.{Overlaps}
use Rattle.fst_types.specs.Facts.{IsLawful}
use Rattle.fst_types.specs.Run.{ChangeMade, ShareByte}
use Rattle.fst_types.proofs.Finite.{In, In-append_left, In-append_right}
use Rattle.fst_types.proofs.Crash.{same_number}
use Rattle.fst_types.proofs.Fits.{all_fit, fold_length}
use Rattle.fst_types.proofs.Folds.{Fits_in, AllFit}
use Rattle.fst_types.proofs.Ascends.{Ascends, ascends_append, in_append, filter_same, filter_none}
use Rattle.fst_types.proofs.Carries.{IsMadeAs, Goes, Carries}
use Rattle.fst_types.proofs.Numbers.{is_live_number, is_number_in_memory, both, in_flight, memory_disk, memory_flight, live_cases, memory_cases, head_cases}
use Rattle.fst_types.proofs.LandsInOrder.{overlaps_land_in_order}

-- a change of b that is on disk, or in flight or on disk
abbrev pub is_down : State → ℕ → ChangeMade → Bool
is_down s b c = c.block == b && not (is_live_number s.heads c.number)

abbrev pub is_out : State → ℕ → ChangeMade → Bool
is_out s b c = c.block == b && not (is_number_in_memory s.heads c.number)

-- what they wrote
abbrev pub down_of : State → ℕ → List ChangeMade → List Write
down_of s b made = map (λ c. c.write) (filter (is_down s b) made)

abbrev pub out_of : State → ℕ → List ChangeMade → List Write
out_of s b made = map (λ c. c.write) (filter (is_out s b) made)

-- what holds along a run from `first`
pub record Along (first s : State) (made : List ChangeMade) : Type 0 where
  pub lawful : IsLawful s
  pub ascends : Ascends (λ c. c.number) made
  pub given : (c : ChangeMade) → In made c → (1 ≤ c.number) × (c.number ≤ s.numbers)
  pub kept : (c : ChangeMade) (p : Patch) → In made c → Contains s.heads p → p.number ≡ c.number → IsMadeAs s c p
  pub known : (p : Patch) (b : ℕ) → Contains s.heads p → IsOn p b → (c : ChangeMade) × In made c × (c.number ≡ p.number)
  pub fits : (c : ChangeMade) → In made c → Fits_in (length (committed first c.block)) c.write
  pub order : (c d : ChangeMade) → In made c → In made d → c.number < d.number → ShareByte c d → IsOnDisk s.heads d.number → IsOnDisk s.heads c.number
  pub folded : (b : ℕ) → committed s b ≡ fold (committed first b) (down_of s b made)

-- two tests agree on a block
pub on_block : (x l m : Bool) → (x ≡ true → l ≡ m) → (x && not l) ≡ (x && not m)
on_block true l m f = ap not (f refl)
on_block false l m f = refl

-- changes of one block fit in its opening bytes
pub part_fits : (first s : State) (made : List ChangeMade) → Along first s made → (b : ℕ) (t : ChangeMade → Bool) → ((c : ChangeMade) → t c ≡ true → c.block ≡ b) → AllFit (length (committed first b)) (map (λ c. c.write) (filter t made))
part_fits first s made A b t on_b = all_fit (length (committed first b)) t (λ c. c.write) made (λ c i e. subst (λ k. Fits_in (length (committed first k)) c.write) (on_b c e) (A.fits c i))

-- one step on
module _ (Late : Patch → Type 0) (first old new : State) (made added : List ChangeMade) (C : Carries Late added old new) (lawful : IsLawful new) (A : Along first old made) where
  -- the head that a change made before has, and had
  made_back : (c : ChangeMade) (p : Patch) → In made c → Contains new.heads p → p.number ≡ c.number → (o : Patch) × Contains old.heads o × Goes Late o p × IsMadeAs old c o
  made_back c p i h e =
      let few = (A.given c i).1 in
      elim (C.back p h) [
        | inl r ↦ (r.0, r.1, r.2, A.kept c r.0 i r.1 (sym r.2.number ∙ e))
        | inr n ↦ let k = n.after in absurd (omega (arith, k, e, few))
      ]

  made_forth : (c : ChangeMade) (o : Patch) → In made c → Contains old.heads o → o.number ≡ c.number → IsLive o → (p : Patch) × Contains new.heads p × Goes Late o p × IsMadeAs old c o
  made_forth c o i h e live = let r = C.forth o h live in (r.0, r.1, r.2, A.kept c o i h e)

  made_kept : (c : ChangeMade) (p : Patch) → In made c → Contains new.heads p → p.number ≡ c.number → IsMadeAs new c p
  made_kept c p i h e =
      let r = made_back c p i h e in
      let few = (A.given c i).1 in
      record {
        number = e;
        block = r.2.block ∙ r.3.block;
        at = r.2.at ∙ r.3.at;
        bytes = C.bytes p h (omega (arith, e, few)) ∙ (ap (content_of old.contents) r.2.number ∙ r.3.bytes);
      }

  -- the head of a change added
  added_kept : (c : ChangeMade) (p : Patch) → In added c → Contains new.heads p → p.number ≡ c.number → IsMadeAs new c p × (p.place ≡ place.Memory)
  added_kept c p i h e =
      let a = C.each c i in
      let same = same_number new.heads a.patch p lawful.heads.one_place_each.rising a.head h (a.made.number ∙ sym e) in
      (subst (IsMadeAs new c) same a.made, ap (λ x. x.place) (sym same) ∙ a.memory)

  -- what was on disk is
  disk_forth : (c : ChangeMade) → In made c → IsOnDisk old.heads c.number → IsOnDisk new.heads c.number
  disk_forth c i d p h e = let r = made_back c p i h e in r.2.forth c.block r.3.block (inl (d r.0 r.1 (sym r.2.number ∙ e)))

  -- what is on disk and has no head was
  disk_back : (c : ChangeMade) → In made c → ((p : Patch) → Contains new.heads p → p.number ≡ c.number → ⊥) → IsOnDisk old.heads c.number
  disk_back c i gone =
      elim (live_cases old.heads c.number) [
        | inl r ↦ let k = made_forth c r.0 i r.1 r.2 r.3 in absurd (gone k.0 k.1 (k.2.number ∙ r.2))
        | inr d ↦ d.0
      ]

  -- changes made that overlap are heads that do
  heads_overlap : (c d : ChangeMade) (p q : Patch) → ShareByte c d → Contains new.heads p → Contains new.heads q → IsMadeAs new c p → IsMadeAs new d q → Overlaps p q
  heads_overlap c d p q share hp hq mp mq =
      let wp = lawful.changes_fit.whole p c.block hp mp.block in
      let wq = lawful.changes_fit.whole q d.block hq mq.block in
      let lp = ap length mp.bytes in
      let lq = ap length mq.bytes in
      record {
        block = c.block;
        first = mp.block;
        second = mq.block ∙ (share.second ∙ sym share.first);
        starts_before = let k = share.starts_before in let a = mp.at in let b = mq.at in omega (arith, k, a, b, wq, lq);
        ends_after = let k = share.ends_after in let a = mp.at in let b = mq.at in omega (arith, k, a, b, wp, lp);
      }

  order_kept : (c d : ChangeMade) → In made c → In made d → c.number < d.number → ShareByte c d → IsOnDisk new.heads d.number → IsOnDisk new.heads c.number
  order_kept c d i j lt share disk =
      elim (head_cases new.heads d.number) [
        | inr gone ↦ disk_forth c i (A.order c d i j lt share (disk_back d j gone))
        | inl q ↦
            λ p h e.
            (overlaps_land_in_order new p q.0 lawful h q.1 (omega (arith, lt, e, q.2)) (heads_overlap c d p q.0 share h q.1 (made_kept c p i h e) (made_kept d q.0 j q.1 q.2))).0 (disk q.0 q.1 q.2)
      ]

  -- a change added has a live head
  added_live : (c : ChangeMade) → In added c → is_live_number new.heads c.number ≡ true
  added_live c i =
      let a = C.each c i in
      elim (live_cases new.heads c.number) [ inl r ↦ r.4 | inr d ↦ absurd (memory_disk a.patch.place a.memory (d.0 a.patch a.head a.made.number)) ]

  -- so what is on disk of all changes is what is of those made before
  down_before : (b : ℕ) → down_of new b (made ++ added) ≡ map (λ c. c.write) (filter (is_down new b) made)
  down_before b =
      ap (map (λ c. c.write)) (filter-append (is_down new b) made added ∙ (ap (λ cs. filter (is_down new b) made ++ cs) (filter_none (is_down new b) added (λ c i. live_off (c.block == b) (is_live_number new.heads c.number) (added_live c i))) ∙ append-nil (filter (is_down new b) made)))
    where
      live_off : (x l : Bool) → l ≡ true → (x && not l) ≡ false
      live_off true l e = ap not e
      live_off false l e = refl

  -- a change that did not land is live as it was
  live_same : (c : ChangeMade) → In made c → ((o : Patch) → IsMadeAs old c o → Late o → ⊥) → is_live_number new.heads c.number ≡ is_live_number old.heads c.number
  live_same c i not_late =
      elim (live_cases new.heads c.number) [
        | inl r ↦ elim (live_cases old.heads c.number) [
          | inl u ↦ r.4 ∙ sym u.4
          | inr d ↦ absurd (r.3 (disk_forth c i d.0 r.0 r.1 r.2))
        ]
        | inr e ↦ elim (live_cases old.heads c.number) [
          | inl u ↦
              let k = made_forth c u.0 i u.1 u.2 u.3 in
              absurd (elim (k.2.back c.block k.3.block (e.0 k.0 k.1 (k.2.number ∙ u.2))) [ inl d ↦ u.3 d | inr late ↦ not_late u.0 k.3 late ])
          | inr d ↦ e.1 ∙ sym d.1
        ]
      ]

  -- on a block of which nothing landed, the same is on disk
  pub down_same : (b : ℕ) → ((c : ChangeMade) → c.block ≡ b → (o : Patch) → IsMadeAs old c o → Late o → ⊥) → down_of new b (made ++ added) ≡ down_of old b made
  down_same b not_late =
      down_before b
      ∙ ap (map (λ c. c.write)) (filter_same (is_down new b) (is_down old b) made
      (λ c i. on_block (c.block == b) (is_live_number new.heads c.number) (is_live_number old.heads c.number) (λ e. live_same c i (not_late c (eqb-true c.block b e)))))

  -- on a block of which all that was in flight landed, what was on disk or in flight is on disk
  pub down_landed : (b : ℕ) → ((o : Patch) → IsOn o b → o.place ≡ place.Flight → Late o) → ((o : Patch) → Late o → o.place ≡ place.Flight) → down_of new b (made ++ added) ≡ out_of old b made
  down_landed b lands flew =
      down_before b
      ∙ ap (map (λ c. c.write)) (filter_same (is_down new b) (is_out old b) made
      (λ c i. on_block (c.block == b) (is_live_number new.heads c.number) (is_number_in_memory old.heads c.number) (λ e. landed_test c i (eqb-true c.block b e))))
    where
      landed_test : (c : ChangeMade) → In made c → c.block ≡ b → is_live_number new.heads c.number ≡ is_number_in_memory old.heads c.number
      landed_test c i on_b =
          elim (live_cases new.heads c.number) [
            | inl r ↦
                let k = made_back c r.0 i r.1 r.2 in
                let on_o = subst (IsOn k.0) on_b k.3.block in
                elim (memory_cases old.heads c.number) [
                  | inl m ↦ r.4 ∙ sym m.4
                  | inr m ↦
                      let not_disk = λ (d : k.0.place ≡ place.Disk). r.3 (k.2.forth c.block k.3.block (inl d)) in
                      absurd (r.3 (k.2.forth c.block k.3.block (inr (lands k.0 on_o (in_flight k.0.place not_disk (m.0 k.0 k.1 k.3.number))))))
                ]
            | inr d ↦ elim (memory_cases old.heads c.number) [
              | inl m ↦
                  let k = made_forth c m.0 i m.1 m.2 (memory_disk m.0.place m.3) in
                  absurd (elim (k.2.back c.block k.3.block (d.0 k.0 k.1 (k.2.number ∙ m.2))) [ inl disk ↦ memory_disk m.0.place m.3 disk | inr late ↦ memory_flight m.0.place m.3 (flew m.0 late) ])
              | inr m ↦ d.1 ∙ sym m.1
            ]
          ]

  -- the equation on, from one for each block
  pub along : ((b : ℕ) → committed new b ≡ fold (committed first b) (down_of new b (made ++ added))) → Along first new (made ++ added)
  along folded = record {
    lawful = lawful;
    ascends = ascends_append (λ c. c.number) made added A.ascends (few_ascend added C.few) (λ c d i j. let k = (A.given c i).1 in let l = (C.each d j).after in omega (arith, k, l));
    given = λ c i. elim (in_append made added c i) [ inl k ↦ let g = A.given c k in let r = C.rises in (g.0, omega (arith, g.1, r)) | inr k ↦ let a = (C.each c k).after in (omega (arith, a), (C.each c k).given) ];
    kept = λ c p i h e. elim (in_append made added c i) [ inl k ↦ made_kept c p k h e | inr k ↦ (added_kept c p k h e).0 ];
    known = λ p b h on.
        elim (C.back p h) [
          | inl r ↦ let k = A.known r.0 b r.1 (sym r.2.block ∙ on) in (k.0, In-append_left made added k.0 k.1, k.2 ∙ sym r.2.number)
          | inr n ↦ let k = n.known b on in (k.0, In-append_right made added k.0 k.1, k.2)
        ];
    fits = λ c i. elim (in_append made added c i) [ inl k ↦ A.fits c k | inr k ↦ added_fits c k ];
    order = λ c d i j lt share disk.
        elim (in_append made added d j) [
          | inr l ↦ let a = C.each d l in absurd (memory_disk a.patch.place a.memory (disk a.patch a.head a.made.number))
          | inl l ↦ elim (in_append made added c i) [
            | inl k ↦ order_kept c d k l lt share disk
            | inr k ↦ let g = (A.given d l).1 in let a = (C.each c k).after in absurd (omega (arith, lt, g, a))
          ]
        ];
    folded = folded;
  }
    where
      few_ascend : (cs : List ChangeMade) → length cs ≤ 1 → Ascends (λ c. c.number) cs
      few_ascend [] few = tt
      few_ascend (c ∷ []) few = (λ d i. absurd i, tt)
      few_ascend (c ∷ d ∷ cs) few = absurd (omega (arith, few))

      -- blocks are as long as at the opening
      long : (b : ℕ) → length (committed new b) ≡ length (committed first b)
      long b =
          ap length (folded b ∙ ap (fold (committed first b)) (down_before b))
          ∙ fold_length (committed first b) (map (λ c. c.write) (filter (is_down new b) made))
          (part_fits first old made A b (is_down new b) (λ c e. eqb-true c.block b (both (c.block == b) (not (is_live_number new.heads c.number)) e).0))

      added_fits : (c : ChangeMade) → In added c → Fits_in (length (committed first c.block)) c.write
      added_fits c i =
          let a = C.each c i in
          let inside = lawful.changes_fit.inside a.patch c.block a.head a.made.block in
          let whole = lawful.changes_fit.whole a.patch c.block a.head a.made.block in
          let sized = lawful.changes_fit.sized c.block inside.0 in
          let bytes = ap length a.made.bytes in
          let at = a.made.at in
          let l = long c.block in
          omega (arith, inside.2, whole, sized, bytes, at, l)
