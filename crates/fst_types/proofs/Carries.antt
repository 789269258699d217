-- What a step does to the patches that were there: each stays what it is, and only a landing brings changes to the disk.
use Rattle.std.proofs.Common.{◌≡◌, ◌⊎◌, ℕ, ◌+◌, ◌<◌, ◌≤◌, List, [], ◌∷◌, ◌++◌, length, map, Contains, Some, None, refl, sym, ap, subst, ◌∙◌, inl, inr, arith}
use Rattle.std.proofs.lemmas.List.Elements.{Contains-push_cases}
use Rattle.fst_types.specs.declared.place.Place.TheVariants as place
use Rattle.fst_types.specs.Patches.{SealedGate, Patch, IsOn, IsLive, block_of_kind, at_of}
use Rattle.fst_types.specs.State.{State}
use Rattle.fst_types.specs.Bytes.{content_of}
use Rattle.fst_types.specs.Cascade.{IsCascadeOf}
use Rattle.fst_types.specs.Gates.{IsOpenNumber}
use Rattle.fst_types.specs.Writable.{IsWritable, IsWritableSet}
use Rattle.fst_types.specs.Gating.{gains, sealed}
use Rattle.fst_types.specs.Writing.{launched, landed}
use Rattle.fst_types.specs.Facts.{HeadsAreLawful}
use Rattle.fst_types.specs.Run.{ChangeMade}
use Rattle.fst_types.proofs.Finite.{In, In-from_Contains, Contains-from_In, In-map, In-append_left}
use Rattle.fst_types.proofs.GateGains.{In-unmap}
use Rattle.fst_types.proofs.Cascades.{Settled, settled_back, settled_on, no_follower_on}
use Rattle.fst_types.proofs.Landing.{landed_cases}
use Rattle.fst_types.proofs.Issuing.{launched_cases}
use Rattle.fst_types.proofs.Sealing.{sealed_cases}
use Rattle.fst_types.proofs.Depending.{grown}
use Rattle.fst_types.proofs.Loosened.{loosened}
use Rattle.fst_types.proofs.Numbers.{memory_disk, flight_disk}

-- head p of s is the change c as it was made
pub record IsMadeAs (s : State) (c : ChangeMade) (p : Patch) : Type 0 where
  pub number : p.number ≡ c.number
  pub block : IsOn p c.block
  pub at : at_of p.kind ≡ c.write.at
  pub bytes : content_of s.contents p.number ≡ c.write.bytes

-- the patch o, later: a change has come to the disk if it was there or is of Late
pub record Goes (Late : Patch → Type 0) (o p : Patch) : Type 0 where
  pub number : p.number ≡ o.number
  pub block : block_of_kind p.kind ≡ block_of_kind o.kind
  pub at : at_of p.kind ≡ at_of o.kind
  pub forth : (b : ℕ) → IsOn o b → (o.place ≡ place.Disk) ⊎ Late o → p.place ≡ place.Disk
  pub back : (b : ℕ) → IsOn o b → p.place ≡ place.Disk → (o.place ≡ place.Disk) ⊎ Late o

-- nothing came to the disk
abbrev pub Never : Patch → Type 0
Never o = ⊥

-- in flight of block b
abbrev pub IsFlying : ℕ → Patch → Type 0
IsFlying b o = IsOn o b × (o.place ≡ place.Flight)

-- the same patches later
pub record Go (Late : Patch → Type 0) (old new : List Patch) : Type 0 where
  pub back : (p : Patch) → Contains new p → (o : Patch) × Contains old o × Goes Late o p
  pub forth : (o : Patch) → Contains old o → (p : Patch) × Contains new p × Goes Late o p

pub goes_alike : (o p : Patch) → p.number ≡ o.number → block_of_kind p.kind ≡ block_of_kind o.kind → at_of p.kind ≡ at_of o.kind → ((b : ℕ) → IsOn o b → p.place ≡ o.place) → Goes Never o p
goes_alike o p number block at same = record {
  number = number;
  block = block;
  at = at;
  forth = λ b on was. elim was [ inl d ↦ same b on ∙ d | inr e ↦ absurd e ];
  back = λ b on d. inl (sym (same b on) ∙ d);
}

pub goes_self : (o : Patch) → Goes Never o o
goes_self o = goes_alike o o refl refl refl (λ b on. refl)

pub goes_then : (Late : Patch → Type 0) (o m p : Patch) → Goes Late o m → Goes Never m p → Goes Late o p
goes_then Late o m p f g = record {
  number = g.number ∙ f.number;
  block = g.block ∙ f.block;
  at = g.at ∙ f.at;
  forth = λ b on was. g.forth b (f.block ∙ on) (inl (f.forth b on was));
  back = λ b on d. elim (g.back b (f.block ∙ on) d) [ inl e ↦ f.back b on e | inr e ↦ absurd e ];
}

goes_settled : (o p : Patch) → Settled o p → Goes Never o p
goes_settled o p s = goes_alike o p s.number (ap block_of_kind s.kind) (ap at_of s.kind) (λ b on. s.place (no_follower_on o.kind b on))

pub go_self : (heads : List Patch) → Go Never heads heads
go_self heads = record { back = λ p h. (p, h, goes_self p); forth = λ o h. (o, h, goes_self o) }

pub go_then : (Late : Patch → Type 0) (old mid new : List Patch) → Go Late old mid → Go Never mid new → Go Late old new
go_then Late old mid new f g = record {
  back = λ p h. let m = g.back p h in let o = f.back m.0 m.1 in (o.0, o.1, goes_then Late o.0 m.0 p o.2 m.2);
  forth = λ o h. let m = f.forth o h in let p = g.forth m.0 m.1 in (p.0, p.1, goes_then Late o m.0 p.0 m.2 p.2);
}

pub go_mapped : (Late : Patch → Type 0) (f : Patch → Patch) (old : List Patch) → ((o : Patch) → Contains old o → Goes Late o (f o)) → Go Late old (map f old)
go_mapped Late f old goes = record {
  back = λ p h.
      let r = In-unmap f old p (In-from_Contains (map f old) p h) in
      let o = Contains-from_In old r.0 r.1 in
      (r.0, o, subst (Goes Late r.0) r.2 (goes r.0 o));
  forth = λ o h. (f o, Contains-from_In (map f old) (f o) (In-map f old o (f o) (In-from_Contains old o h) refl), goes o h);
}

pub go_cascade : (old new : List Patch) → IsCascadeOf old new → Go Never old new
go_cascade old new cascade = record {
  back = λ p h. let r = settled_back old new cascade p h in (r.0, r.1, goes_settled r.0 p r.2);
  forth = λ o h. let r = settled_on old new cascade o h in (r.0, r.1, goes_settled o r.0 r.2);
}

pub goes_launched : (old : List Patch) (numbers b : ℕ) (chosen : List ℕ) → HeadsAreLawful old numbers → IsWritable old b → IsWritableSet old b chosen → (o : Patch) → Contains old o → Goes Never o (launched chosen o)
goes_launched old numbers b chosen H writable choice o h =
    elim (launched_cases old numbers b chosen (loosened H) writable choice o h) [
      | inl m ↦
          subst (Goes Never o) (sym m.1) (record {
            number = refl;
            block = refl;
            at = refl;
            forth = λ c on was. elim was [ inl d ↦ absurd (memory_disk o.place m.0.in_memory.memory d) | inr e ↦ absurd e ];
            back = λ c on d. absurd (flight_disk place.Flight refl d);
          })
      | inr s ↦ subst (Goes Never o) (sym s.0) (goes_self o)
    ]

pub goes_landed : (b : ℕ) (o : Patch) → Goes (IsFlying b) o (landed b o)
goes_landed b o =
    elim (landed_cases b o) [
      | inl m ↦ subst (Goes (IsFlying b) o) (sym m.2) (record { number = refl; block = refl; at = refl; forth = λ c on was. refl; back = λ c on d. inr (m.0, m.1) })
      | inr s ↦ subst (Goes (IsFlying b) o) (sym s.0) (record { number = refl; block = refl; at = refl; forth = λ c on was. elim was [ inl d ↦ d | inr f ↦ absurd (s.1 f.0 f.1) ]; back = λ c on d. inl d })
    ]

pub goes_sealed : (old new : List Patch) (numbers g : ℕ) → HeadsAreLawful old numbers → IsOpenNumber old g → IsCascadeOf (map (sealed g) old) new → (o : Patch) → Contains old o → Goes Never o (sealed g o)
goes_sealed old new numbers g H was_open cascade o h =
    elim (sealed_cases old new numbers g (loosened H) was_open cascade o h) [
      | inl m ↦ subst (Goes Never o) (sym m.1) (goes_alike o (record o { kind = SealedGate }) refl (sym (ap block_of_kind m.0)) (sym (ap at_of m.0)) (λ b on. refl))
      | inr s ↦ subst (Goes Never o) (sym s) (goes_self o)
    ]

pub goes_gained : (g : ℕ) (names : List ℕ) (o : Patch) → Goes Never o (gains g names o)
goes_gained g names o = let k = grown g names o in goes_alike o (gains g names o) k.number (ap block_of_kind k.kind) (ap at_of k.kind) (λ b on. k.place)

-- a new patch, which is one of the changes added if it is a change
pub record IsNew (numbers : ℕ) (added : List ChangeMade) (p : Patch) : Type 0 where
  pub after : numbers < p.number
  pub known : (b : ℕ) → IsOn p b → (c : ChangeMade) × In added c × (c.number ≡ p.number)

-- a change that was added, and its head
pub record IsAdded (numbers : ℕ) (new : State) (c : ChangeMade) : Type 0 where
  pub after : numbers < c.number
  pub given : c.number ≤ new.numbers
  pub patch : Patch
  pub head : Contains new.heads patch
  pub made : IsMadeAs new c patch
  pub memory : patch.place ≡ place.Memory

-- what a step that adds these changes does to the patches
pub record Carries (Late : Patch → Type 0) (added : List ChangeMade) (old new : State) : Type 0 where
  pub back : (p : Patch) → Contains new.heads p → ((o : Patch) × Contains old.heads o × Goes Late o p) ⊎ IsNew old.numbers added p
  pub forth : (o : Patch) → Contains old.heads o → IsLive o → (p : Patch) × Contains new.heads p × Goes Late o p
  pub bytes : (p : Patch) → Contains new.heads p → p.number ≤ old.numbers → content_of new.contents p.number ≡ content_of old.contents p.number
  pub each : (c : ChangeMade) → In added c → IsAdded old.numbers new c
  pub few : length added ≤ 1
  pub rises : old.numbers ≤ new.numbers

-- the same patches, the same bytes, none added
pub carries_all : (Late : Patch → Type 0) (old new : State) → new.contents ≡ old.contents → new.numbers ≡ old.numbers → Go Late old.heads new.heads → Carries Late [] old new
carries_all Late old new contents numbers go = record {
  back = λ p h. inl (go.back p h);
  forth = λ o h live. go.forth o h;
  bytes = λ p h few. ap (λ es. content_of es p.number) contents;
  each = λ c h. absurd h;
  few = omega arith;
  rises = omega (arith, numbers);
}

pub carries_self : (s : State) → Carries Never [] s s
carries_self s = carries_all Never s s refl refl (go_self s.heads)

-- a patch added that is no change
pub carries_added : (old new : State) (p : Patch) → block_of_kind p.kind ≡ None → p.number ≡ old.numbers + 1 → new.contents ≡ old.contents → new.numbers ≡ p.number → Go Never (old.heads ++ p ∷ []) new.heads → Carries Never [] old new
carries_added old new p none next contents numbers go = record {
  back = λ q h.
      let m = go.back q h in
      elim (Contains-push_cases old.heads p m.0 m.1) [
        | inl o ↦ inl (m.0, o, m.2)
        | inr e ↦
            let same = ap (λ x. x.number) e in
            let here = m.2.number in
            inr (record { after = omega (arith, same, here, next); known = λ b on. absurd (no_block b (sym none ∙ (ap (λ x. block_of_kind x.kind) e ∙ (sym m.2.block ∙ on)))) })
      ];
  forth = λ o h live. go.forth o (Contains-from_In (old.heads ++ p ∷ []) o (In-append_left old.heads (p ∷ []) o (In-from_Contains old.heads o h)));
  bytes = λ q h few. ap (λ es. content_of es q.number) contents;
  each = λ c h. absurd h;
  few = omega arith;
  rises = omega (arith, next, numbers);
}
  where
    no_block : (b : ℕ) → None ≡ Some b → ⊥
    no_block b e = cc
