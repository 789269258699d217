-- A patch depends directly on earlier ones alone, but for a gate: each step keeps that.
use Rattle.std.proofs.Common.{◌≡◌, ℕ, ◌+◌, ◌≤◌, List, [], ◌∷◌, ◌++◌, length, map, filter, Contains, sym, ap, subst, ◌∙◌, inl, inr, arith}
use Rattle.std.proofs.lemmas.List.Elements.{Contains-push_cases}
use Rattle.fst_types.specs.declared.grade.Grade.{Grade}
use Rattle.fst_types.specs.Patches.{Change, Empty, OpenGate, Patch}
use Rattle.fst_types.specs.Tests.{is_live}
use Rattle.fst_types.specs.Gates.{IsOpenNumber}
use Rattle.fst_types.specs.Gating.{Depends, Seals, gains}
use Rattle.fst_types.specs.Making.{fresh, MakesChange}
use Rattle.fst_types.specs.State.{State}
use Rattle.fst_types.specs.Facts.{DependOnEarlier, HeadsAreLawful}
use Rattle.fst_types.specs.Events.{Event, Reply}
use Rattle.fst_types.specs.Run.{ChangeMade, made_after}
use Rattle.fst_types.specs.Step.{Row, change, empty, gate, depend, seal, issue, land, stall, lose, retry, evict, forget, choose, pick, show, ask_place, ask_flight, ask_stalled, ask_stat, group}
use Rattle.fst_types.proofs.Finite.{In-from_Contains, Contains-from_In}
use Rattle.fst_types.proofs.Crash.{same_number}
use Rattle.fst_types.proofs.Alike.{Alike, back_alike}
use Rattle.fst_types.proofs.Cascades.{alike_cascade}
use Rattle.fst_types.proofs.GateGains.{In-unmap}
use Rattle.fst_types.proofs.Depending.{grown}
use Rattle.fst_types.proofs.Dropping.{filter_in}
use Rattle.fst_types.proofs.Landing.{alike_landed}
use Rattle.fst_types.proofs.Issuing.{alike_launched}
use Rattle.fst_types.proofs.Sealing.{alike_sealed}
use Rattle.fst_types.proofs.Parts.{Part, gates, depends, seals, changes, regroups, Parts, no_parts, and_then, made_by, parts_row}
use Rattle.fst_types.proofs.Heads.{heads_parts}
use Rattle.fst_types.proofs.Loosened.{loosened}

-- the same patches at other places, a gate perhaps sealed
earlier_alike : (old new : List Patch) → Alike old new → DependOnEarlier old → DependOnEarlier new
earlier_alike old new A E p q h c =
    let r = back_alike old new A p h in
    let n = r.2.number in
    elim (E r.0 q r.1 (subst (λ ds. Contains ds q) r.2.dependencies c)) [
      | inl lt ↦ inl (omega (arith, lt, n))
      | inr g ↦ inr (elim r.2.kind [ inl e ↦ elim g [ inl o ↦ inl (e ∙ o) | inr s ↦ inr (e ∙ s) ] | inr e ↦ inr e.1 ])
    ]

-- a new patch after them
earlier_added : (old : List Patch) (p : Patch) (numbers : ℕ) → p.number ≡ numbers + 1 → ((q : ℕ) → Contains p.dependencies q → q ≤ numbers) → DependOnEarlier old → DependOnEarlier (old ++ p ∷ [])
earlier_added old p numbers next named E x q h c =
    elim (Contains-push_cases old p x h) [
      | inl o ↦ E x q o c
      | inr e ↦ let k = named q (subst (λ y. Contains y.dependencies q) (sym e) c) in let n = ap (λ y. y.number) e in inl (omega (arith, k, next, n))
    ]

earlier_gained : (old : List Patch) (numbers g : ℕ) (names : List ℕ) → HeadsAreLawful old numbers → IsOpenNumber old g → DependOnEarlier old → DependOnEarlier (map (gains g names) old)
earlier_gained old numbers g names H is_open E p q h c =
    let r = In-unmap (gains g names) old p (In-from_Contains (map (gains g names) old) p h) in
    let o = Contains-from_In old r.0 r.1 in
    let k = grown g names r.0 in
    let same = r.2 in
    let n = ap (λ x. x.number) (sym same) ∙ k.number in
    let kind : p.kind ≡ r.0.kind = ap (λ x. x.kind) (sym same) ∙ k.kind in
    elim (k.more q (subst (λ x. Contains x.dependencies q) (sym same) c)) [
      | inl was ↦ elim (E r.0 q o was) [
        | inl lt ↦ inl (omega (arith, lt, n))
        | inr is ↦ inr (elim is [ inl e ↦ inl (kind ∙ e) | inr e ↦ inr (kind ∙ e) ])
      ]
      | inr new ↦ inr (inl (kind ∙ (ap (λ x. x.kind) (same_number old r.0 is_open.patch H.one_place_each.rising o is_open.head (new.0 ∙ sym is_open.numbered)) ∙ is_open.is_open)))
    ]

-- the heads after, as the row has them
earlier_at : (heads new : List Patch) → new ≡ heads → DependOnEarlier heads → DependOnEarlier new
earlier_at heads new same E = subst DependOnEarlier (sym same) E

earlier_changed : (old new : State) (b at : ℕ) (bytes after : List ℕ) (number : ℕ) (grade : Grade) → MakesChange old b at bytes after number grade new → HeadsAreLawful old.heads old.numbers → DependOnEarlier old.heads → DependOnEarlier new.heads
earlier_changed old new b at bytes after number grade m H E =
    let p = fresh number (Change b at (length bytes) grade) m.row.dependencies in
    earlier_at (old.heads ++ p ∷ []) new.heads m.row.added
    (earlier_added old.heads p old.numbers m.row.next
    (λ q c. elim (m.row.depends.only q c) [
      | inl l ↦ let k = (H.one_place_each.numbered l.0.patch l.0.head).1 in omega (arith, k, l.0.numbered)
      | inr o ↦ let k = (H.one_place_each.numbered o.patch o.head).1 in omega (arith, k, o.numbered)
    ]) E)

earlier_gained_by : (old new : State) (g : ℕ) (on : List ℕ) → Depends old g on new → HeadsAreLawful old.heads old.numbers → DependOnEarlier old.heads → DependOnEarlier new.heads
earlier_gained_by old new g on m H E = earlier_at (map (gains g m.row.names) old.heads) new.heads m.row.gained (earlier_gained old.heads old.numbers g m.row.names H m.row.gate E)

earlier_sealed : (old new : State) (g : ℕ) → Seals old g new → HeadsAreLawful old.heads old.numbers → DependOnEarlier old.heads → DependOnEarlier new.heads
earlier_sealed old new g m H E = earlier_alike old.heads new.heads (alike_sealed old.heads new.heads old.numbers g (loosened H) m.row.gate m.row.cascade) E

earlier_part : (old : State) (k : ℕ) (added : List ChangeMade) (new : State) → Part old k added new → HeadsAreLawful old.heads old.numbers → DependOnEarlier old.heads → DependOnEarlier new.heads
earlier_part old k added new (gates {number = number} m) H E =
    earlier_at (old.heads ++ fresh number OpenGate [] ∷ []) new.heads m.row.added (earlier_added old.heads (fresh number OpenGate []) old.numbers m.row.next (λ q c. absurd (omega (arith, c.1))) E)
earlier_part old k added new (depends m) H E = earlier_gained_by old new _ _ m H E
earlier_part old k added new (seals m) H E = earlier_sealed old new _ m H E
earlier_part old k added new (changes m) H E = earlier_changed old new _ _ _ _ _ _ m H E
earlier_part old k added new (regroups groups same) H E = earlier_at old.heads new.heads (ap (λ s. s.heads) same) E

earlier_parts : (old : State) (k : ℕ) (added : List ChangeMade) (new : State) → Parts old k added new → HeadsAreLawful old.heads old.numbers → DependOnEarlier old.heads → DependOnEarlier new.heads
earlier_parts old k added new no_parts H E = E
earlier_parts old k added new (and_then {k = i} {j = j} {made = made} {more = more} {mid = mid} parts part) H E = earlier_part mid j more new part (heads_parts old i made mid parts H) (earlier_parts old i made mid parts H E)

pub earlier_row : (old new : State) (e : Event) (r : Reply) → Row old e r new → HeadsAreLawful old.heads old.numbers → DependOnEarlier old.heads → DependOnEarlier new.heads
earlier_row old new e r (change m) H E = earlier_changed old new _ _ _ _ _ _ m H E
earlier_row old new e r (empty {number = number} m) H E =
    let mid = old.heads ++ fresh number Empty m.row.dependencies ∷ [] in
    earlier_alike mid new.heads (alike_cascade mid new.heads m.row.cascade)
    (earlier_added old.heads (fresh number Empty m.row.dependencies) old.numbers m.row.next (λ q c. let l = m.row.depends.only q c in let k = (H.one_place_each.numbered l.0.patch l.0.head).1 in omega (arith, k, l.0.numbered)) E)
earlier_row old new e r (gate m) H E = earlier_part old 1 [] new (gates m) H E
earlier_row old new e r (depend m) H E = earlier_gained_by old new _ _ m H E
earlier_row old new e r (seal m) H E = earlier_sealed old new _ m H E
earlier_row old new e r (issue {b = b} m) H E = earlier_at _ new.heads m.row (earlier_alike old.heads _ (alike_launched old.heads old.numbers b m.chosen (loosened H) m.writable m.choice) E)
earlier_row old new e r (land {b = b} m) H E = earlier_alike old.heads new.heads (alike_landed old.heads new.heads old.numbers b (loosened H) m.row) E
earlier_row old new e r (stall m) H E = earlier_at old.heads new.heads (ap (λ s. s.heads) m.state) E
earlier_row old new e r (lose m) H E = earlier_at old.heads new.heads (ap (λ s. s.heads) m.state) E
earlier_row old new e r (retry m) H E = earlier_at old.heads new.heads (ap (λ s. s.heads) m.state) E
earlier_row old new e r evict H E = E
earlier_row old new e r (forget m) H E =
    earlier_at (filter is_live old.heads) new.heads m.row.kept (λ p q h c. E p q (Contains-from_In old.heads p (filter_in is_live old.heads p (In-from_Contains (filter is_live old.heads) p h)).0) c)
earlier_row old new e r (choose m) H E = E
earlier_row old new e r (pick m) H E = E
earlier_row old new e r show H E = E
earlier_row old new e r ask_place H E = E
earlier_row old new e r ask_flight H E = E
earlier_row old new e r (ask_stalled m) H E = E
earlier_row old new e r ask_stat H E = E
earlier_row old new e r (group m) H E = earlier_parts old (made_by e) (made_after [] e r) new (parts_row old e r new m) H E
