-- What calls leave of what the blocks need: more room, patches that moved on, and a patch more.
use Rattle.std.proofs.Common.{◌≡◌, ◌≢◌, ◌≤◌, ◌+◌, ◌++◌, ◌∷◌, ◌∙◌, [], ℕ, List, Contains, length, map, filter, refl, sym, subst, inl, inr, arith}
use Rattle.std.specs.Option.{IfSome}
use Rattle.std.proofs.lemmas.{Bool.cases_eq, List.Elements.{Contains-push}}
use Rattle.fst_types.specs.{Cascade.IsCascadeOf, Closure.one, Facts.{HasOnePlaceEach, IsOnDiskWithAll, SparseAreLawful}, Gates.IsOpenNumber, Gating.{gains, sealed}, Patches.{Patch, IsOn, IsRising}, Tests.is_live}
use Rattle.fst_types.specs.{Writable.{IsWritable, IsWritableSet}, Writing.{landed, launched}}
use Rattle.fst_levels.specs.{Needing.{HaveGivenEnds, HaveWaysBack, IsNeeding, IsNoted, IsPruned, IsPut, Needing, needs_of}, WayBack.LeadsBack, declared.needs.Way.Way}
use Rattle.fst_levels.proofs.{Backed.{Any, all_stay, edges_landed, edges_launched, leads_stays, stays_gained, stays_landed, stays_launched, stays_left, stays_put, stays_sealed}, ComesBack.live_number}
use Rattle.fst_levels.proofs.{EndsWere.{end_gained, end_landed, end_launched, end_left, end_put, end_sealed}, NeedsGrown.{change_needed, gained_needed, left_needed, other_needed}, NeedsMoved.{landed_needed, launched_needed, sealed_needed}, Pruned.pruned_needed}
use Rattle.fst_heads.specs.{Heads.{IsRising as HeadsRise, patches_of}, Nodes.{AreSettled, nodes_of}, declared.head.Head.Head}
use Rattle.fst_graph.specs.{Ready.change_of, declared.prepared.Prepared.Prepared as Stored}

-- some is left out to which a walk need not go on, and there is no way more
pub needing_pruned : (heads : List Head) (counted : ℕ) → HeadsRise heads → IsOnDiskWithAll (patches_of heads) → AreSettled (nodes_of heads) counted → (b : ℕ) {blocks : ℕ} {needs kept : Needing} → IsPruned (patches_of heads) b needs.lists kept.lists
    → ((w : Way) → Contains kept.ways w → Contains needs.ways w) → IsNeeding (patches_of heads) blocks needs → IsNeeding (patches_of heads) blocks kept
needing_pruned heads counted rising disk settled b {needs = needs} {kept} pruned ways N = record {
  long = pruned.long ∙ N.long;
  needed = pruned_needed heads counted rising disk settled b needs.lists kept.lists pruned N.needed;
  back = λ w c. N.back w (ways w c);
}

pub needing_sealed : {blocks : ℕ} {needs : Needing} (old new : List Patch) (numbers g : ℕ) → SparseAreLawful old numbers → SparseAreLawful new numbers → IsOpenNumber old g → IsCascadeOf (map (sealed g) old) new → IsNeeding old blocks needs → IsNeeding new blocks needs
needing_sealed {needs = needs} old new numbers g H K gate cascade N = record {
  long = N.long;
  needed = sealed_needed old new numbers g H gate cascade (needs_of needs.lists) N.needed;
  back = all_stay old new H.one_place_each.rising H.on_disk_with_all K.one_place_each.rising K.on_disk_with_all Any (λ c d e. tt) (stays_sealed old new numbers g H gate cascade) needs.ways (λ w c b. end_sealed old new numbers g H gate cascade b w.end) N.back;
}

-- ways stay where a write landed of a block that needs nothing; else none is kept
pub needing_landed : {blocks : ℕ} {needs kept : Needing} (old new : List Patch) (numbers b : ℕ) → SparseAreLawful old numbers → SparseAreLawful new numbers → IsCascadeOf (map (landed b) old) new → kept.lists ≡ needs.lists
    → ((w : Way) → Contains kept.ways w → Contains needs.ways w × (needs_of needs.lists b ≡ [])) → IsNeeding old blocks needs → IsNeeding new blocks kept
needing_landed {needs = needs} {kept} old new numbers b H K cascade lists ways N = record {
  long = rw lists N.long;
  needed = rw lists (landed_needed old new b cascade (needs_of needs.lists) N.needed);
  back = λ w c d now.
      let k = ways w c in
      all_stay old new H.one_place_each.rising H.on_disk_with_all K.one_place_each.rising K.on_disk_with_all (λ x. x ≢ b)
      (edges_landed old H.one_place_each.rising H.on_disk_with_all H.flights_stand_alone b (needs_of needs.lists) N.needed k.1) (stays_landed old new b cascade) needs.ways (λ v i e. end_landed old new b cascade e v.end) N.back w k.0 d now;
}

-- the block that is launched needs nothing more, and ways stay
pub needing_launched : {blocks : ℕ} {needs cleared : Needing} (old : List Patch) (numbers b c : ℕ) (chosen : List ℕ) → SparseAreLawful old numbers → SparseAreLawful (map (launched chosen) old) numbers → IsWritable old b → IsWritableSet old b chosen → c ≡ b → length cleared.lists ≡ length needs.lists
    → ((d : ℕ) → d ≢ c → needs_of cleared.lists d ≡ needs_of needs.lists d) → needs_of cleared.lists c ≡ [] → cleared.ways ≡ needs.ways → IsNeeding old blocks needs → IsNeeding (map (launched chosen) old) blocks cleared
needing_launched {needs = needs} {cleared} old numbers b c chosen H K writable choice here long others none same N = record {
  long = long ∙ N.long;
  needed = launched_needed old numbers b chosen H writable choice (needs_of needs.lists) (needs_of cleared.lists) (λ d other. others d (λ e. other (e ∙ here))) (subst (λ d. needs_of cleared.lists d ≡ []) here none) N.needed;
  back = rw same (all_stay old (map (launched chosen) old) H.one_place_each.rising H.on_disk_with_all K.one_place_each.rising K.on_disk_with_all (λ x. x ≢ b)
      (edges_launched old numbers b chosen H writable choice) (stays_launched old numbers b chosen H writable choice) needs.ways (λ w i d. end_launched old numbers b chosen H writable choice d w.end) N.back);
}

pub needing_gained : {blocks : ℕ} {needs : Needing} (old : List Patch) (g : ℕ) (names : List ℕ) → IsRising old → IsOnDiskWithAll old → IsRising (map (gains g names) old) → IsOnDiskWithAll (map (gains g names) old) → IsOpenNumber old g → IsNeeding old blocks needs → IsNeeding (map (gains g names) old) blocks needs
needing_gained {needs = needs} old g names rising disk in_order rests gate N = record {
  long = N.long;
  needed = gained_needed old rising g names gate (needs_of needs.lists) N.needed;
  back = all_stay old (map (gains g names) old) rising disk in_order rests Any (λ c d e. tt) (stays_gained old g names) needs.ways (λ w c b. end_gained old g names b w.end) N.back;
}

pub needing_left : {blocks : ℕ} {needs : Needing} (old : List Patch) → IsRising old → IsOnDiskWithAll old → IsRising (filter is_live old) → IsOnDiskWithAll (filter is_live old) → IsNeeding old blocks needs → IsNeeding (filter is_live old) blocks needs
needing_left {needs = needs} old rising disk in_order rests N = record {
  long = N.long;
  needed = left_needed old rising disk (needs_of needs.lists) N.needed;
  back = all_stay old (filter is_live old) rising disk in_order rests Any (λ c d e. tt) (stays_left old) needs.ways (λ w c b. end_left old b w.end) N.back;
}

-- ways stay with one patch more
back_put : {old : List Patch} {numbers later : ℕ} (p : Patch) (ways : List Way) → SparseAreLawful old numbers → SparseAreLawful (old ++ p ∷ []) later → p.number ≡ numbers + 1 → HaveGivenEnds numbers ways → HaveWaysBack old ways → HaveWaysBack (old ++ p ∷ []) ways
back_put {old} p ways H K next given =
    all_stay old (old ++ p ∷ []) H.one_place_each.rising H.on_disk_with_all K.one_place_each.rising K.on_disk_with_all Any (λ c d e. tt) (stays_put old p) ways (λ w c b. end_put old p b w.end (λ e. let g = given w c in omega (arith, g, next, e)))

-- a gate or an empty patch more
pub needing_put : {old : List Patch} {numbers later blocks : ℕ} {needs : Needing} (p : Patch) → SparseAreLawful old numbers → SparseAreLawful (old ++ p ∷ []) later → p.number ≡ numbers + 1 → ((b : ℕ) → IsOn p b → ⊥) → HaveGivenEnds numbers needs.ways → IsNeeding old blocks needs → IsNeeding (old ++ p ∷ []) blocks needs
needing_put {old} {numbers} {needs = needs} p H K next off given N = record { long = N.long; needed = other_needed old numbers H.one_place_each p next (λ b on hard. off b on) (needs_of needs.lists) N.needed; back = back_put p needs.ways H K next given N.back }

-- a change more, from which a way leads back if an end is told
pub needing_change : {old : List Patch} {numbers blocks : ℕ} {needs grown : Needing} (p : Stored) → SparseAreLawful old numbers → SparseAreLawful (old ++ change_of numbers p ∷ []) (numbers + 1) → HaveGivenEnds numbers needs.ways → IsNeeding old blocks needs
    → IsPut old p.block p.dependencies.items p.told.grade needs.lists grown.lists → IsNoted (numbers + 1) p.told.end needs.ways grown.ways → IfSome p.told.end (LeadsBack old p.block p.dependencies.items) → IsNeeding (old ++ change_of numbers p ∷ []) blocks grown
needing_change {old} {numbers} {needs = needs} {grown} p H K given N put noted told = record {
  long = let long = put.long in long ∙ N.long;
  needed = change_needed old numbers H.one_place_each (change_of numbers p) refl refl p.block p.told.grade (λ c on. same c on) (λ hard. cc) refl (λ hard. cc) older needs.lists grown.lists put N.needed;
  back = λ w c b now. elim (noted w c) [
    | inl was ↦ back_put made needs.ways H K refl given N.back w was b now
    | inr is ↦
        let l : LeadsBack old p.block p.dependencies.items w.end = subst (λ e. IfSome e (LeadsBack old p.block p.dependencies.items)) is.1 told in
        record {
          patch = made;
          head = Contains-push old made;
          numbered = sym is.0;
          block = p.block;
          change = refl;
          back = leads_stays old (old ++ made ∷ []) H.one_place_each.rising H.on_disk_with_all K.one_place_each.rising K.on_disk_with_all Any (λ c d e. tt) (stays_put old made) p.block p.dependencies.items p.dependencies.items w.end (λ q i. i) l
              (live_number (old ++ made ∷ []) K.one_place_each.rising b b w.end now);
        }
  ];
}
  where
    made : Patch
    made = change_of numbers p

    same : (c : ℕ) → IsOn (change_of numbers p) c → c ≡ p.block
    same c on = cc

    -- it does not depend on itself, so on older ones alone
    older : (q : ℕ) → Contains p.dependencies.items q → q ≤ numbers
    older q named = elim (cases_eq q (numbers + 1)) [
      | inl own ↦ absurd (K.no_cycle (numbers + 1) (one (record { patch = made; head = Contains-push old made; numbered = refl; named = subst (Contains p.dependencies.items) own named })))
      | inr other ↦ let given = K.one_place_each.named made q (Contains-push old made) named in omega (arith, given, other)
    ]

-- its end was given
pub given_more : (old : List Patch) (numbers : ℕ) (ways grown : List Way) (p : Stored) → HasOnePlaceEach old numbers → HaveGivenEnds numbers ways → IsNoted (numbers + 1) p.told.end ways grown → IfSome p.told.end (LeadsBack old p.block p.dependencies.items) → HaveGivenEnds (numbers + 1) grown
given_more old numbers ways grown p H given noted told w c = elim (noted w c) [
  | inl was ↦ let g = given w was in omega (arith, g)
  | inr is ↦
      let l : LeadsBack old p.block p.dependencies.items w.end = subst (λ e. IfSome e (LeadsBack old p.block p.dependencies.items)) is.1 told in
      let g = (H.numbered l.change.patch l.change.head).1 in
      let e = l.change.numbered in
      omega (arith, g, e)
]
