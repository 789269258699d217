-- A change goes from memory to flight to disk, and no other way.
use Rattle.std.proofs.Common.{◌≡◌, ◌⊎◌, ℕ, ◌<◌, true, List, [], ◌∷◌, ◌++◌, length, map, filter, Contains, Some, refl, sym, ap, subst, ◌∙◌, inl, inr, arith}
use Rattle.std.proofs.lemmas.List.Elements.{Contains-push_cases}
use Rattle.fst_types.specs.declared.place.Place.TheVariants as place
use Rattle.fst_types.specs.Patches.{Kind, Empty, Patch, IsOn, IsLive, block_of_kind}
use Rattle.fst_types.specs.Dependencies.{IsOnDisk}
use Rattle.fst_types.specs.Tests.{is_live}
use Rattle.fst_types.specs.State.{State}
use Rattle.fst_types.specs.Cascade.{IsCascadeOf}
use Rattle.fst_types.specs.Making.{fresh}
use Rattle.fst_types.specs.Writing.{Issues, launched, landed}
use Rattle.fst_types.specs.Facts.{IsLawful, HeadsAreLawful}
use Rattle.fst_types.specs.Events.{Event, Issue, Settle, Reply}
use Rattle.fst_types.specs.Run.{ChangeMade}
use Rattle.fst_types.specs.Step.{accepted, refused, Row, change, empty, gate, depend, seal, issue, land, stall, lose, retry, evict, forget, choose, pick, show, ask_place, ask_flight, ask_stalled, ask_stat, group}
use Rattle.fst_types.specs.Moving.{MovesOn, stays, flies, lands, WasMovedOn}
use Rattle.fst_types.specs.Laws.{ChangesMoveOn, LiveChangesStay, DiskIsForGood}
use Rattle.fst_types.proofs.Finite.{In-from_Contains}
use Rattle.fst_types.proofs.Crash.{on_disk, same_number}
use Rattle.fst_types.proofs.Cascades.{settled_back, no_follower_on}
use Rattle.fst_types.proofs.GateGains.{In-unmap}
use Rattle.fst_types.proofs.Finite.{Contains-from_In}
use Rattle.fst_types.proofs.Landing.{landed_cases}
use Rattle.fst_types.proofs.Issuing.{launched_cases}
use Rattle.fst_types.proofs.Dropping.{filter_in}
use Rattle.fst_types.proofs.Fits.{LieIn, lie_row}
use Rattle.fst_types.proofs.Heads.{heads_row, no_block}
use Rattle.fst_types.proofs.Parts.{Part, gates, depends, seals, changes, made_by, parts_row}
use Rattle.fst_types.proofs.Carries.{Carries, Never, IsFlying}
use Rattle.fst_types.proofs.Extends.{Extends, extends_part, extends_parts}
use Rattle.fst_types.proofs.Effects.{Effect, quiet, landing, added_by, effect_row}
use Rattle.fst_types.proofs.Loosened.{loosened}

-- a change is in memory as the call made it
abbrev IsNewInMemory : ℕ → Patch → Type 0
IsNewInMemory numbers p = (numbers < p.number) × (p.place ≡ place.Memory)

-- where each change of a list is, and was before the call
abbrev MoveOn : Event → List Patch → ℕ → List Patch → Type 0
MoveOn e old numbers new = (p : Patch) (b : ℕ) → Contains new p → IsOn p b → WasMovedOn old e b p ⊎ IsNewInMemory numbers p

one_block : (k : Kind) (b c : ℕ) → block_of_kind k ≡ Some b → block_of_kind k ≡ Some c → b ≡ c
one_block k b c e f = cc

move_self : (e : Event) (heads : List Patch) (numbers : ℕ) → MoveOn e heads numbers heads
move_self e heads numbers p b h on = inl (record { before = p; head = h; same_number = refl; same_block = on; moved = stays })

-- a cascade moves no change
move_cascade : (e : Event) (old mid new : List Patch) (numbers : ℕ) → MoveOn e old numbers mid → IsCascadeOf mid new → MoveOn e old numbers new
move_cascade e old mid new numbers move cascade p b h on =
    let r = settled_back mid new cascade p h in
    let on_then = sym (ap block_of_kind r.2.kind) ∙ on in
    let still = r.2.place (no_follower_on r.0.kind b on_then) in
    elim (move r.0 b r.1 on_then) [
      | inl w ↦ inl (record { before = w.before; head = w.head; same_number = w.same_number ∙ sym r.2.number; same_block = w.same_block; moved = subst (MovesOn b e w.before.place) (sym still) w.moved })
      | inr n ↦ let a = n.0 in let k = r.2.number in inr (omega (arith, a, k), still ∙ n.1)
    ]

-- calls that make patches or change gates
move_extended : (e : Event) (added : List ChangeMade) (old new : State) → HeadsAreLawful new.heads new.numbers → Extends added old new → MoveOn e old.heads old.numbers new.heads
move_extended e added old new H E p b h on =
    elim (E.back p h) [
      | inl o ↦
          let on_then = sym o.2.block ∙ on in
          inl (record { before = o.0; head = o.1; same_number = sym o.2.number; same_block = on_then; moved = subst (MovesOn b e o.0.place) (sym (o.2.place b on_then)) stays })
      | inr n ↦
          let k = n.known b on in
          let a = E.each k.0 k.1 in
          inr (n.after, ap (λ x. x.place) (same_number new.heads p a.patch H.one_place_each.rising h a.head (sym k.2 ∙ sym a.made.number)) ∙ a.memory)
    ]

move_part : (e : Event) (old : State) (k : ℕ) (added : List ChangeMade) (new : State) → Part old k added new → IsLawful old → HeadsAreLawful new.heads new.numbers → MoveOn e old.heads old.numbers new.heads
move_part e old k added new part L H = move_extended e added old new H (extends_part old k added new part L.heads L.changes_fit)

-- an empty patch at the end is no change
move_emptied : (e : Event) (old : List Patch) (numbers number : ℕ) (named : List ℕ) → MoveOn e old numbers (old ++ fresh number Empty named ∷ [])
move_emptied e old numbers number named p b h on =
    elim (Contains-push_cases old (fresh number Empty named) p h) [
      | inl o ↦ move_self e old numbers p b o on
      | inr n ↦ absurd (no_block p.kind b (ap (λ x. block_of_kind x.kind) (sym n)) on)
    ]

-- p is o after the call
record Moved (e : Event) (o p : Patch) : Type 0 where
  number : p.number ≡ o.number
  block : block_of_kind p.kind ≡ block_of_kind o.kind
  moves : (b : ℕ) → IsOn o b → MovesOn b e o.place p.place

moved_self : (e : Event) (o : Patch) → Moved e o o
moved_self e o = record { number = refl; block = refl; moves = λ b on. stays }

move_mapped : (e : Event) (old : List Patch) (numbers : ℕ) (f : Patch → Patch) → ((o : Patch) → Contains old o → Moved e o (f o)) → MoveOn e old numbers (map f old)
move_mapped e old numbers f moved p b h on =
    let r = In-unmap f old p (In-from_Contains (map f old) p h) in
    let o = Contains-from_In old r.0 r.1 in
    let m = subst (Moved e r.0) r.2 (moved r.0 o) in
    let was_on = sym m.block ∙ on in
    inl (record { before = r.0; head = o; same_number = sym m.number; same_block = was_on; moved = m.moves b was_on })

flown : (b : ℕ) (o : Patch) → IsOn o b → o.place ≡ place.Memory → Moved (Issue b) o (record o { place = place.Flight })
flown b o on memory = record {
  number = refl;
  block = refl;
  moves = λ c on_c. subst (λ (k : ℕ). MovesOn k (Issue b) o.place place.Flight) (one_block o.kind b c on on_c) (subst (λ x. MovesOn b (Issue b) x place.Flight) (sym memory) flies);
}

move_issued : (old new : State) (b ticket : ℕ) (image : List ℕ) (m : Issues old b ticket image new) → HeadsAreLawful old.heads old.numbers → MoveOn (Issue b) old.heads old.numbers (map (launched m.chosen) old.heads)
move_issued old new b ticket image m H =
    move_mapped (Issue b) old.heads old.numbers (launched m.chosen)
    (λ o h. elim (launched_cases old.heads old.numbers b m.chosen (loosened H) m.writable m.choice o h) [
      | inl w ↦ subst (Moved (Issue b) o) (sym w.1) (flown b o w.0.in_memory.change w.0.in_memory.memory)
      | inr s ↦ subst (Moved (Issue b) o) (sym s.0) (moved_self (Issue b) o)
    ])

landed_now : (ticket b : ℕ) (image : List ℕ) (o : Patch) → IsOn o b → o.place ≡ place.Flight → Moved (Settle ticket b image true) o (record o { place = place.Disk })
landed_now ticket b image o on flight = record {
  number = refl;
  block = refl;
  moves = λ c on_c. subst (λ (k : ℕ). MovesOn k (Settle ticket b image true) o.place place.Disk) (one_block o.kind b c on on_c) (subst (λ x. MovesOn b (Settle ticket b image true) x place.Disk) (sym flight) lands);
}

move_landed : (old : List Patch) (numbers ticket b : ℕ) (image : List ℕ) → MoveOn (Settle ticket b image true) old numbers (map (landed b) old)
move_landed old numbers ticket b image =
    move_mapped (Settle ticket b image true) old numbers (landed b)
    (λ o h. elim (landed_cases b o) [
      | inl w ↦ subst (Moved (Settle ticket b image true) o) (sym w.2) (landed_now ticket b image o w.0 w.1)
      | inr s ↦ subst (Moved (Settle ticket b image true) o) (sym s.0) (moved_self (Settle ticket b image true) o)
    ])

move_forgotten : (e : Event) (old : List Patch) (numbers : ℕ) → MoveOn e old numbers (filter is_live old)
move_forgotten e old numbers p b h on = move_self e old numbers p b (Contains-from_In old p (filter_in is_live old p (In-from_Contains (filter is_live old) p h)).0) on

-- the heads after, as the row has them
move_to : (e : Event) (old : List Patch) (numbers : ℕ) (heads new : List Patch) → new ≡ heads → MoveOn e old numbers heads → MoveOn e old numbers new
move_to e old numbers heads new same move = subst (MoveOn e old numbers) (sym same) move

move_row : (old new : State) (e : Event) (r : Reply) → LieIn (length old.blocks) old.size (added_by e r) → Row old e r new → IsLawful old → HeadsAreLawful new.heads new.numbers → MoveOn e old.heads old.numbers new.heads
move_row old new e r lie (change m) L H = move_part e old 1 _ new (changes m) L H
move_row old new e r lie (empty {number = number} m) L H =
    let mid = old.heads ++ fresh number Empty m.row.dependencies ∷ [] in
    move_cascade e old.heads mid new.heads old.numbers (move_emptied e old.heads old.numbers number m.row.dependencies) m.row.cascade
move_row old new e r lie (gate m) L H = move_part e old 1 [] new (gates m) L H
move_row old new e r lie (depend m) L H = move_part e old 0 [] new (depends m) L H
move_row old new e r lie (seal m) L H = move_part e old 0 [] new (seals m) L H
move_row old new e r lie (issue {b = b} {ticket = ticket} {image = image} m) L H = move_to (Issue b) old.heads old.numbers (map (launched m.chosen) old.heads) new.heads m.row (move_issued old new b ticket image m L.heads)
move_row old new e r lie (land {ticket = ticket} {b = b} {image = image} m) L H =
    let e = Settle ticket b image true in
    move_cascade e old.heads (map (landed b) old.heads) new.heads old.numbers (move_landed old.heads old.numbers ticket b image) m.row
move_row old new e r lie (stall m) L H = move_to e old.heads old.numbers old.heads new.heads (ap (λ s. s.heads) m.state) (move_self e old.heads old.numbers)
move_row old new e r lie (lose m) L H = move_to e old.heads old.numbers old.heads new.heads (ap (λ s. s.heads) m.state) (move_self e old.heads old.numbers)
move_row old new e r lie (retry m) L H = move_to e old.heads old.numbers old.heads new.heads (ap (λ s. s.heads) m.state) (move_self e old.heads old.numbers)
move_row old new e r lie evict L H = move_self e old.heads old.numbers
move_row old new e r lie (forget m) L H = move_to e old.heads old.numbers (filter is_live old.heads) new.heads m.row.kept (move_forgotten e old.heads old.numbers)
move_row old new e r lie (choose m) L H = move_self e old.heads old.numbers
move_row old new e r lie (pick m) L H = move_self e old.heads old.numbers
move_row old new e r lie show L H = move_self e old.heads old.numbers
move_row old new e r lie ask_place L H = move_self e old.heads old.numbers
move_row old new e r lie ask_flight L H = move_self e old.heads old.numbers
move_row old new e r lie (ask_stalled m) L H = move_self e old.heads old.numbers
move_row old new e r lie ask_stat L H = move_self e old.heads old.numbers
move_row old new e r lie (group m) L H =
    move_extended e (added_by e r) old new H (extends_parts old (made_by e) (added_by e r) new (parts_row old e r new m) L.heads lie L.changes_fit)

pub changes_move_on : ChangesMoveOn
changes_move_on old new e r p b L (accepted n row) h on = move_row old new e r (lie_row old new e r n row) row L (heads_row old new e r row L.heads) p b h on
changes_move_on old new e r p b L (refused refusal) h on = move_self e old.heads old.numbers p b h on

-- a live change is a head after the call
abbrev StaysOn : Patch → ℕ → State → Type 0
StaysOn p b new = (later : Patch) × Contains new.heads later × (later.number ≡ p.number) × IsOn later b

live_kept : (Late : Patch → Type 0) (added : List ChangeMade) (old new : State) → Carries Late added old new → (p : Patch) (b : ℕ) → Contains old.heads p → IsOn p b → IsLive p → StaysOn p b new
live_kept Late added old new C p b h on live = let k = C.forth p h live in (k.0, k.1, k.2.number, k.2.block ∙ on)

live_effect : (added : List ChangeMade) (old new : State) → Effect added old new → (p : Patch) (b : ℕ) → Contains old.heads p → IsOn p b → IsLive p → StaysOn p b new
live_effect added old new (quiet same C) p b h on live = live_kept Never added old new C p b h on live
live_effect added old new (landing c f flight image others C) p b h on live = live_kept (IsFlying c) added old new C p b h on live

pub live_changes_stay : LiveChangesStay
live_changes_stay old new e r p b L (accepted n row) h on live = live_effect (added_by e r) old new (effect_row old new e r (lie_row old new e r n row) row L.heads L.changes_fit) p b h on live
live_changes_stay old new e r p b L (refused refusal) h on live = (p, h, refl, on)

-- what was on disk is there, or forgotten
disk_kept : (Late : Patch → Type 0) (added : List ChangeMade) (old new : State) → IsLawful old → Carries Late added old new → (p : Patch) (b : ℕ) → Contains old.heads p → IsOn p b → p.place ≡ place.Disk → IsOnDisk new.heads p.number
disk_kept Late added old new lawful C p b hp on disk x h e =
    elim (C.back x h) [
      | inl r ↦
          let same = same_number old.heads p r.0 lawful.heads.one_place_each.rising hp r.1 (sym e ∙ r.2.number) in
          r.2.forth b (subst (λ o. IsOn o b) same on) (subst (λ o. (o.place ≡ place.Disk) ⊎ Late o) same (inl disk))
      | inr n ↦ let k = (lawful.heads.one_place_each.numbered p hp).1 in let a = n.after in absurd (omega (arith, k, a, e))
    ]

disk_effect : (added : List ChangeMade) (old new : State) → IsLawful old → Effect added old new → (p : Patch) (b : ℕ) → Contains old.heads p → IsOn p b → p.place ≡ place.Disk → IsOnDisk new.heads p.number
disk_effect added old new lawful (quiet same C) = disk_kept Never added old new lawful C
disk_effect added old new lawful (landing b f flight image others C) = disk_kept (IsFlying b) added old new lawful C

pub disk_is_for_good : DiskIsForGood
disk_is_for_good old new e r p b lawful (accepted n row) hp on disk = disk_effect (added_by e r) old new lawful (effect_row old new e r (lie_row old new e r n row) row lawful.heads lawful.changes_fit) p b hp on disk
disk_is_for_good old new e r p b lawful (refused refusal) hp on disk = on_disk old.heads p lawful.heads.one_place_each.rising hp disk
