-- Calls that make patches or change gates: the changes that were there stay where they are.
use Rattle.std.proofs.Common.{◌≡◌, ◌⊎◌, ℕ, ◌+◌, ◌≤◌, List, [], ◌∷◌, ◌++◌, length, map, Contains, Some, None, refl, sym, ap, subst, ◌∙◌, inl, inr, arith}
use Rattle.std.proofs.lemmas.List.Elements.{Contains-push_cases}
use Rattle.fst_types.specs.declared.grade.Grade.{Grade}
use Rattle.fst_types.specs.Patches.{Change, OpenGate, Patch, IsOn, block_of_kind, at_of}
use Rattle.fst_types.specs.State.{State}
use Rattle.fst_types.specs.Bytes.{content_of}
use Rattle.fst_types.specs.Cascade.{IsCascadeOf}
use Rattle.fst_types.specs.Making.{fresh, MakesChange, MakesGate}
use Rattle.fst_types.specs.Gating.{gains, sealed}
use Rattle.fst_types.specs.Facts.{ChangesFit, HeadsAreLawful}
use Rattle.fst_types.specs.Run.{ChangeMade}
use Rattle.fst_types.proofs.Finite.{In, In-from_Contains, Contains-from_In, In-map, In-append_left, In-append_right}
use Rattle.fst_types.proofs.GateGains.{In-unmap}
use Rattle.fst_types.proofs.Cascades.{Settled, settled_back, settled_on, no_follower_on}
use Rattle.fst_types.proofs.Sealing.{sealed_cases}
use Rattle.fst_types.proofs.Depending.{grown}
use Rattle.fst_types.proofs.Fits.{content_end, LieIn, fits_parts}
use Rattle.fst_types.proofs.Heads.{heads_parts}
use Rattle.fst_types.proofs.Parts.{Part, gates, depends, seals, changes, regroups, Parts, no_parts, and_then}
use Rattle.fst_types.proofs.Ascends.{in_append}
use Rattle.fst_types.proofs.Contents.{content_more}
use Rattle.fst_types.proofs.Carries.{Goes, Never, goes_alike, IsNew, IsAdded, Carries}
use Rattle.fst_types.proofs.Loosened.{loosened}

-- the change that a call made
abbrev pub made_now : ℕ → ℕ → ℕ → List ℕ → ChangeMade
made_now number b at bytes = record { number = number; block = b; write = record { at = at; bytes = bytes } }

-- the patch o, later, a change being at the same place
pub record Stays (o p : Patch) : Type 0 where
  pub number : p.number ≡ o.number
  pub block : block_of_kind p.kind ≡ block_of_kind o.kind
  pub at : at_of p.kind ≡ at_of o.kind
  pub place : (b : ℕ) → IsOn o b → p.place ≡ o.place

pub stays_self : (o : Patch) → Stays o o
stays_self o = record { number = refl; block = refl; at = refl; place = λ b on. refl }

pub stays_then : (o m p : Patch) → Stays o m → Stays m p → Stays o p
stays_then o m p f g = record { number = g.number ∙ f.number; block = g.block ∙ f.block; at = g.at ∙ f.at; place = λ b on. g.place b (f.block ∙ on) ∙ f.place b on }

-- the same patches later
pub record Stay (old new : List Patch) : Type 0 where
  pub back : (p : Patch) → Contains new p → (o : Patch) × Contains old o × Stays o p
  pub forth : (o : Patch) → Contains old o → (p : Patch) × Contains new p × Stays o p

pub stay_self : (heads : List Patch) → Stay heads heads
stay_self heads = record { back = λ p h. (p, h, stays_self p); forth = λ o h. (o, h, stays_self o) }

pub stay_mapped : (f : Patch → Patch) (old : List Patch) → ((o : Patch) → Contains old o → Stays o (f o)) → Stay old (map f old)
stay_mapped f old stays = record {
  back = λ p h.
      let r = In-unmap f old p (In-from_Contains (map f old) p h) in
      let o = Contains-from_In old r.0 r.1 in
      (r.0, o, subst (Stays r.0) r.2 (stays r.0 o));
  forth = λ o h. (f o, Contains-from_In (map f old) (f o) (In-map f old o (f o) (In-from_Contains old o h) refl), stays o h);
}

pub stay_cascade : (old mid new : List Patch) → Stay old mid → IsCascadeOf mid new → Stay old new
stay_cascade old mid new f cascade = record {
  back = λ p h. let m = settled_back mid new cascade p h in let o = f.back m.0 m.1 in (o.0, o.1, stays_then o.0 m.0 p o.2 (stays_settled m.0 p m.2));
  forth = λ o h. let m = f.forth o h in let p = settled_on mid new cascade m.0 m.1 in (p.0, p.1, stays_then o m.0 p.0 m.2 (stays_settled m.0 p.0 p.2));
}
  where
    stays_settled : (o p : Patch) → Settled o p → Stays o p
    stays_settled o p s = record { number = s.number; block = ap block_of_kind s.kind; at = ap at_of s.kind; place = λ b on. s.place (no_follower_on o.kind b on) }

-- what a call that adds these changes does to the patches, where none is forgotten and none moves
pub record Extends (added : List ChangeMade) (old new : State) : Type 0 where
  pub back : (p : Patch) → Contains new.heads p → ((o : Patch) × Contains old.heads o × Stays o p) ⊎ IsNew old.numbers added p
  pub forth : (o : Patch) → Contains old.heads o → (p : Patch) × Contains new.heads p × Stays o p
  pub bytes : (p : Patch) → Contains new.heads p → p.number ≤ old.numbers → content_of new.contents p.number ≡ content_of old.contents p.number
  pub each : (c : ChangeMade) → In added c → IsAdded old.numbers new c
  pub rises : old.numbers ≤ new.numbers

pub extends_carries : (added : List ChangeMade) (old new : State) → length added ≤ 1 → Extends added old new → Carries Never added old new
extends_carries added old new few E = record {
  back = λ p h. elim (E.back p h) [ inl o ↦ inl (o.0, o.1, goes o.0 p o.2) | inr n ↦ inr n ];
  forth = λ o h live. let p = E.forth o h in (p.0, p.1, goes o p.0 p.2);
  bytes = E.bytes;
  each = E.each;
  few = few;
  rises = E.rises;
}
  where
    goes : (o p : Patch) → Stays o p → Goes Never o p
    goes o p s = goes_alike o p s.number s.block s.at s.place

extends_all : (old new : State) → new.contents ≡ old.contents → new.numbers ≡ old.numbers → Stay old.heads new.heads → Extends [] old new
extends_all old new contents numbers stay = record {
  back = λ p h. inl (stay.back p h);
  forth = stay.forth;
  bytes = λ p h few. ap (λ es. content_of es p.number) contents;
  each = λ c h. absurd h;
  rises = omega (arith, numbers);
}

extends_gated : (old new : State) (number : ℕ) → MakesGate old number new → Extends [] old new
extends_gated old new number m = record {
  back = λ q h. elim (Contains-push_cases old.heads (fresh number OpenGate []) q (subst (λ hs. Contains hs q) heads h)) [
    | inl o ↦ inl (q, o, stays_self q)
    | inr e ↦ let k = ap (λ x. x.number) e in inr (record { after = omega (arith, k, m.row.next); known = λ b on. absurd (no_block b (ap (λ x. block_of_kind x.kind) e ∙ on)) })
  ];
  forth = λ o h. (o, subst (λ hs. Contains hs o) (sym heads) (Contains-from_In (old.heads ++ fresh number OpenGate [] ∷ []) o (In-append_left old.heads (fresh number OpenGate [] ∷ []) o (In-from_Contains old.heads o h))), stays_self o);
  bytes = λ p h few. ap (λ s. content_of s.contents p.number) m.state;
  each = λ c h. absurd h;
  rises = let k = ap (λ s. s.numbers) m.state in omega (arith, k, m.row.next);
}
  where
    heads : new.heads ≡ old.heads ++ fresh number OpenGate [] ∷ []
    heads = m.row.added

    no_block : (b : ℕ) → None ≡ Some b → ⊥
    no_block b e = cc

extends_then : (made more : List ChangeMade) (old mid new : State) → Extends made old mid → Extends more mid new → Extends (made ++ more) old new
extends_then made more old mid new A B = record {
  back = λ p h. elim (B.back p h) [
    | inl m ↦ elim (A.back m.0 m.1) [
      | inl o ↦ inl (o.0, o.1, stays_then o.0 m.0 p o.2 m.2)
      | inr n ↦
          let a = n.after in
          let e = m.2.number in
          inr (record { after = omega (arith, a, e); known = λ b on. let k = n.known b (sym m.2.block ∙ on) in (k.0, In-append_left made more k.0 k.1, k.2 ∙ sym m.2.number) })
    ]
    | inr n ↦
        let a = n.after in
        let r = A.rises in
        inr (record { after = omega (arith, a, r); known = λ b on. let k = n.known b on in (k.0, In-append_right made more k.0 k.1, k.2) })
  ];
  forth = λ o h. let m = A.forth o h in let p = B.forth m.0 m.1 in (p.0, p.1, stays_then o m.0 p.0 m.2 p.2);
  bytes = λ p h few.
      let r = A.rises in
      elim (B.back p h) [
        | inl m ↦
            let e = m.2.number in
            B.bytes p h (omega (arith, few, r)) ∙ subst (λ (n : ℕ). content_of mid.contents n ≡ content_of old.contents n) (sym e) (A.bytes m.0 m.1 (omega (arith, few, e)))
        | inr n ↦ let a = n.after in absurd (omega (arith, a, few, r))
      ];
  each = λ c i. elim (in_append made more c i) [
    | inl k ↦
        let a = A.each c k in
        let p = B.forth a.patch a.head in
        let g = a.given in
        let r = B.rises in
        let e = p.2.number in
        let n = a.made.number in
        record {
          after = a.after;
          given = omega (arith, g, r);
          patch = p.0;
          head = p.1;
          made = record {
            number = p.2.number ∙ a.made.number;
            block = p.2.block ∙ a.made.block;
            at = p.2.at ∙ a.made.at;
            bytes = B.bytes p.0 p.1 (omega (arith, e, n, g)) ∙ (ap (content_of mid.contents) p.2.number ∙ a.made.bytes);
          };
          memory = p.2.place c.block a.made.block ∙ a.memory;
        }
    | inr k ↦
        let b = B.each c k in
        let f = b.after in
        let r = A.rises in
        record { after = omega (arith, f, r); given = b.given; patch = b.patch; head = b.head; made = b.made; memory = b.memory }
  ];
  rises = let a = A.rises in let b = B.rises in omega (arith, a, b);
}

extends_changed : (old new : State) (b at : ℕ) (bytes after : List ℕ) (number : ℕ) (grade : Grade) → MakesChange old b at bytes after number grade new → HeadsAreLawful old.heads old.numbers → ChangesFit old
    → Extends (made_now number b at bytes ∷ []) old new
extends_changed old new b at bytes after number grade m H F = record {
  back = λ q h.
      elim (Contains-push_cases old.heads p q (subst (λ hs. Contains hs q) heads h)) [
        | inl o ↦ inl (q, o, stays_self q)
        | inr e ↦
            let same = ap (λ x. x.number) e in
            inr (record { after = omega (arith, same, next); known = λ c on. (made_now number b at bytes, inl refl, same) })
      ];
  forth = λ o h. (o, now o (In-append_left old.heads (p ∷ []) o (In-from_Contains old.heads o h)), stays_self o);
  bytes = λ q h few. ap (λ es. content_of es q.number) contents ∙ content_more old.contents number q.number bytes (λ e. omega (arith, e, few, next));
  each = λ c i.
      elim i [
        | inl e ↦
            subst (IsAdded old.numbers new) e (record {
              after = omega (arith, next);
              given = let k = ap (λ s. s.numbers) m.state in omega (arith, k);
              patch = p;
              head = now p (In-append_right old.heads (p ∷ []) p (inl refl));
              made = record {
                number = refl;
                block = refl;
                at = refl;
                bytes =
                    ap (λ es. content_of es number) contents
                    ∙ content_end old.contents number bytes (λ x k same. let given = F.given x (Contains-from_In old.contents x k) in omega (arith, given, same, next));
              };
              memory = refl;
            })
        | inr k ↦ absurd k
      ];
  rises = let k = ap (λ s. s.numbers) m.state in omega (arith, k, next);
}
  where
    p : Patch
    p = fresh number (Change b at (length bytes) grade) m.row.dependencies

    heads : new.heads ≡ old.heads ++ p ∷ []
    heads = m.row.added

    contents : new.contents ≡ old.contents ++ (number, bytes) ∷ []
    contents = ap (λ s. s.contents) m.state

    next : number ≡ old.numbers + 1
    next = m.row.next

    now : (q : Patch) → In (old.heads ++ p ∷ []) q → Contains new.heads q
    now q i = subst (λ hs. Contains hs q) (sym heads) (Contains-from_In (old.heads ++ p ∷ []) q i)

pub carries_changed : (old new : State) (b at : ℕ) (bytes after : List ℕ) (number : ℕ) (grade : Grade) → MakesChange old b at bytes after number grade new → HeadsAreLawful old.heads old.numbers → ChangesFit old
    → Carries Never (made_now number b at bytes ∷ []) old new
carries_changed old new b at bytes after number grade m H F = extends_carries (made_now number b at bytes ∷ []) old new (omega arith) (extends_changed old new b at bytes after number grade m H F)

-- the parts of a call of a group
pub extends_part : (old : State) (k : ℕ) (added : List ChangeMade) (new : State) → Part old k added new → HeadsAreLawful old.heads old.numbers → ChangesFit old → Extends added old new
extends_part old k added new (gates {number = number} m) H F = extends_gated old new number m
extends_part old k added new (depends {g = g} m) H F =
    extends_all old new (ap (λ s. s.contents) m.state) (ap (λ s. s.numbers) m.state)
    (subst (Stay old.heads) (sym m.row.gained)
    (stay_mapped (gains g m.row.names) old.heads (λ o h. let j = grown g m.row.names o in record { number = j.number; block = ap block_of_kind j.kind; at = ap at_of j.kind; place = λ b on. j.place })))
extends_part old k added new (seals {g = g} m) H F =
    extends_all old new (ap (λ s. s.contents) m.state) (ap (λ s. s.numbers) m.state)
    (stay_cascade old.heads (map (sealed g) old.heads) new.heads
    (stay_mapped (sealed g) old.heads (λ o h. elim (sealed_cases old.heads new.heads old.numbers g (loosened H) m.row.gate m.row.cascade o h) [
      | inl was ↦ subst (Stays o) (sym was.1) (record { number = refl; block = sym (ap block_of_kind was.0); at = sym (ap at_of was.0); place = λ b on. refl })
      | inr same ↦ subst (Stays o) (sym same) (stays_self o)
    ])) m.row.cascade)
extends_part old k added new (changes {b = b} {at = at} {number = number} {bytes = bytes} {after = after} {grade = grade} m) H F = extends_changed old new b at bytes after number grade m H F
extends_part old k added new (regroups groups same) H F =
    extends_all old new (ap (λ s. s.contents) same) (ap (λ s. s.numbers) same) (subst (Stay old.heads) (sym (ap (λ s. s.heads) same)) (stay_self old.heads))

pub extends_parts : (old : State) (k : ℕ) (added : List ChangeMade) (new : State) → Parts old k added new → HeadsAreLawful old.heads old.numbers → LieIn (length old.blocks) old.size added → ChangesFit old → Extends added old new
extends_parts old k added new no_parts H lie F = extends_all old old refl refl (stay_self old.heads)
extends_parts old k added new (and_then {k = i} {j = j} {made = made} {more = more} {mid = mid} parts part) H lie F =
    let lie_made : LieIn (length old.blocks) old.size made = λ c h. lie c (In-append_left made more c h) in
    extends_then made more old mid new (extends_parts old i made mid parts H lie_made F)
    (extends_part mid j more new part (heads_parts old i made mid parts H) (fits_parts old i made mid parts lie_made H F))
