-- What a call makes of all patches whose heads are kept it makes of those that are not forgotten; and what is forgotten stays on disk.
use Rattle.std.proofs.Common.{◌≡◌, ◌≤◌, ◌==◌, ℕ, Bool, true, false, List, [], ◌∷◌, ◌++◌, map, Contains, refl, sym, ap, subst, ◌∙◌, inl, inr, arith}
use Rattle.std.proofs.lemmas.{Bool.cases_Bool, List.Elements.Contains-push_cases}
use Rattle.fst_types.specs.{Cascade.{unsettled, IsCascadeOf, RestsOnDisk}, Closure.IsAcyclic, Dependencies.{DirectlyOn, IsOnDisk}, Facts.{IsOnDiskWithAll, SparseAreLawful}}
use Rattle.fst_types.specs.{Gating.{gains, sealed, GateGains, GateIsSealed}, Grouping.{GateIsSealedIfOpen}, Making.{fresh, EmptyIsMade}}
use Rattle.fst_types.specs.{Patches.{Empty, Patch, IsOpenGate}, Tests.{is_among, is_change_at}, Writing.{launched, landed, WriteIsLanded}}
use Rattle.fst_types.proofs.{Adding.{disk_added, gates_added}, Alike.{Like, back_alike, open_back}, Cascades.{alike_cascade, arrived, place_decided}, Heads.{sparse_emptied}}
use Rattle.fst_types.proofs.{Landing.{alike_landed, sparse_landed}, Sealing.{alike_sealed, sparse_sealed}}
use Rattle.fst_graph.specs.Remembered.{remembered, AreGone}
use Rattle.fst_graph.proofs.{Remembered.{was, live_number, on_disk, open_number, open_known, direct_was, direct_is, remembered_map, remembered_pushed}, RememberedRules.above_was}
use Rattle.fst_types.specs.declared.place.Place.TheVariants as place
use Rattle.fst_types.proofs.Numbers.{memory_disk}
use Rattle.fst_types.proofs.Cascades.{unsettled_number}

-- a seal keeps the number of each patch
pub sealed_number : (g : ℕ) (p : Patch) → (sealed g p).number ≡ p.number
sealed_number g p = elim (cases_Bool (p.number == g)) [ inl t ↦ rw t refl | inr f ↦ rw f refl ]

pub gains_number : (g : ℕ) (names : List ℕ) (p : Patch) → (gains g names p).number ≡ p.number
gains_number g names p = elim (cases_Bool (p.number == g)) [ inl t ↦ rw t refl | inr f ↦ rw f refl ]

pub landed_number : (b : ℕ) (p : Patch) → (landed b p).number ≡ p.number
landed_number b p = elim (cases_Bool (is_change_at place.Flight b p)) [ inl t ↦ rw t refl | inr f ↦ rw f refl ]

pub launched_number : (chosen : List ℕ) (p : Patch) → (launched chosen p).number ≡ p.number
launched_number chosen p = elim (cases_Bool (is_among chosen p.number)) [ inl t ↦ rw t refl | inr f ↦ rw f refl ]

-- and its place
pub sealed_place : (g : ℕ) (p : Patch) → (sealed g p).place ≡ p.place
sealed_place g p = elim (cases_Bool (p.number == g)) [ inl t ↦ rw t refl | inr f ↦ rw f refl ]

module _ (gone : ℕ → Bool) where
  pub remembered_unsettled : (heads : List Patch) → remembered gone (map unsettled heads) ≡ map unsettled (remembered gone heads)
  remembered_unsettled = remembered_map gone unsettled (λ p. unsettled_number p.kind p)

  -- followers settle as they do beside what is forgotten
  pub remembered_cascade : (mid new : List Patch) → AreGone gone new → IsCascadeOf mid new → IsCascadeOf (remembered gone mid) (remembered gone new)
  remembered_cascade mid new G c = record {
    same = sym (remembered_unsettled new) ∙ (ap (remembered gone) c.same ∙ remembered_unsettled mid);
    places = λ p h f. c.places p (was gone new p h).0 f;
    settled = λ p h f.
        let s = c.settled p (was gone new p h).0 f in
        (λ d q i. (on_disk gone new G q).1 (s.0 d q i), λ r. s.1 (λ q i. (on_disk gone new G q).0 (r q i)));
  }

  pub gone_pushed : (heads : List Patch) (p : Patch) → AreGone gone heads → gone p.number ≡ false → AreGone gone (heads ++ p ∷ [])
  gone_pushed heads p G e x h t = elim (Contains-push_cases heads p x h) [ inl o ↦ G x o t | inr same ↦ absurd (not_both (gone p.number) (subst (λ (y : Patch). gone y.number ≡ true) (sym same) t) e) ]
    where
      not_both : (v : Bool) → v ≡ true → v ≡ false → ⊥
      not_both v a b = cc

-- what was on disk, with all that it depends on, is there after a cascade of the same patches, perhaps at other places
module _ (old mid new : List Patch) (disk : (p : Patch) → Contains old p → p.place ≡ place.Disk → RestsOnDisk old p) (gates : (p : Patch) → Contains old p → IsOpenGate p → p.place ≡ place.Memory)
    (acyclic : IsAcyclic (DirectlyOn new)) (cascade : IsCascadeOf mid new) (back : (p : Patch) → Contains new p → (o : Patch) × Contains old o × Like o p) where
  pub stays_on_disk : (n : ℕ) → IsOnDisk old n → IsOnDisk new n
  stays_on_disk n d p h e =
      arrived mid new cascade acyclic (λ x. IsOnDisk old x.number)
      (λ x b i bound on.
      let o = back x i in
      elim (place_decided x.place) [ inl there ↦ there | inr live ↦ absurd (o.2.live b on live (bound o.0 o.1 (sym o.2.number))) ])
      (λ x i bound shut. let o = back x i in memory_disk o.0.place (gates o.0 o.1 (open_back o.0 x o.2 shut)) (bound o.0 o.1 (sym o.2.number)))
      (λ x y i bound j named. let o = back x i in disk o.0 o.1 (bound o.0 o.1 (sym o.2.number)) y.number (subst (λ ds. Contains ds y.number) o.2.dependencies named))
      p h (subst (IsOnDisk old) (sym e) d)

  pub gone_stays : (gone : ℕ → Bool) → AreGone gone old → AreGone gone new
  gone_stays gone G p h t = stays_on_disk p.number (λ x i e. G x i (subst (λ n. gone n ≡ true) (sym e) t)) p h refl

module _ (gone : ℕ → Bool) (heads : List Patch) (numbers : ℕ) (G : AreGone gone heads) (H : SparseAreLawful heads numbers) where
  abbrev S : List Patch
  S = remembered gone heads

  abbrev D : IsOnDiskWithAll heads
  D = H.on_disk_with_all

  -- a gate is sealed
  pub gone_sealed : (g : ℕ) (new : List Patch) → GateIsSealed heads g new → AreGone gone new
  gone_sealed g new s =
      gone_stays heads (map (sealed g) heads) new D.disk D.open_gates (sparse_sealed heads new numbers g H s.gate s.cascade).no_cycle s.cascade
      (back_alike heads new (alike_sealed heads new numbers g H s.gate s.cascade)) gone G

  pub sealed_remembered : (g : ℕ) (new : List Patch) → GateIsSealed heads g new → GateIsSealed S g (remembered gone new)
  sealed_remembered g new s = record {
    gate = (open_number gone heads G D g).1 s.gate;
    cascade = subst (λ mid. IsCascadeOf mid (remembered gone new)) (remembered_map gone (sealed g) (sealed_number g) heads) (remembered_cascade gone (map (sealed g) heads) new (gone_sealed g new s) s.cascade);
  }

  pub gone_begun : (g : ℕ) (new : List Patch) → GateIsSealedIfOpen heads g new → AreGone gone new
  gone_begun g new s = elim s [ inl seal ↦ gone_sealed g new seal | inr shut ↦ subst (AreGone gone) (sym shut.1) G ]

  pub begun_remembered : (g : ℕ) (new : List Patch) → GateIsSealedIfOpen heads g new → GateIsSealedIfOpen S g (remembered gone new)
  begun_remembered g new s = elim s [ inl seal ↦ inl (sealed_remembered g new seal) | inr shut ↦ inr (λ o. shut.0 ((open_number gone heads G D g).0 o), ap (remembered gone) shut.1) ]

  pub begun_lawful : (g : ℕ) (new : List Patch) → GateIsSealedIfOpen heads g new → SparseAreLawful new numbers
  begun_lawful g new s = elim s [ inl seal ↦ sparse_sealed heads new numbers g H seal.gate seal.cascade | inr shut ↦ subst (λ ps. SparseAreLawful ps numbers) (sym shut.1) H ]

  -- what was in flight of a block is on disk
  pub gone_landed : (b : ℕ) (new : List Patch) → WriteIsLanded heads b new → AreGone gone new
  gone_landed b new s =
      gone_stays heads (map (landed b) heads) new D.disk D.open_gates (sparse_landed heads new numbers b H s).no_cycle s (back_alike heads new (alike_landed heads new numbers b H s)) gone G

  pub landed_remembered : (b : ℕ) (new : List Patch) → WriteIsLanded heads b new → WriteIsLanded S b (remembered gone new)
  landed_remembered b new s =
      subst (λ mid. IsCascadeOf mid (remembered gone new)) (remembered_map gone (landed b) (landed_number b) heads) (remembered_cascade gone (map (landed b) heads) new (gone_landed b new s) s)

  -- a new empty patch
  module _ (after : List ℕ) (number : ℕ) (new : List Patch) (e : gone number ≡ false) (s : EmptyIsMade heads numbers after number new) where
    abbrev made : Patch
    made = fresh number Empty s.dependencies

    named : (q : ℕ) → Contains s.dependencies q → q ≤ numbers
    named q c = let l = (s.depends.only q c).0 in let k = (H.one_place_each.numbered l.patch l.head).1 in omega (arith, k, l.numbered)

    pub gone_emptied : AreGone gone new
    gone_emptied =
        gone_stays (heads ++ made ∷ []) (heads ++ made ∷ []) new (disk_added heads numbers H made s.next named refl) (gates_added heads numbers H made s.next named refl)
        (sparse_emptied heads new numbers after number s H).no_cycle s.cascade (back_alike (heads ++ made ∷ []) new (alike_cascade (heads ++ made ∷ []) new s.cascade)) gone (gone_pushed gone heads made G e)

    pub emptied_remembered : EmptyIsMade S numbers after number (remembered gone new)
    emptied_remembered = record {
      next = s.next;
      dependencies = s.dependencies;
      depends = record {
        rising = s.depends.rising;
        only = λ n c. let k = s.depends.only n c in ((live_number gone heads G n).1 k.0, k.1);
        each = λ n k. s.depends.each n ((live_number gone heads G n).0 k.0, k.1);
      };
      cascade = subst (λ mid. IsCascadeOf mid (remembered gone new)) (remembered_pushed gone heads made e) (remembered_cascade gone (heads ++ made ∷ []) new gone_emptied s.cascade);
    }

-- an open gate gains named patches
module _ (gone : ℕ → Bool) (heads : List Patch) (numbers : ℕ) (G : AreGone gone heads) (D : IsOnDiskWithAll heads) where
  pub gains_remembered : (g : ℕ) (on : List ℕ) (new : List Patch) → GateGains heads g on new → GateGains (remembered gone heads) g on (remembered gone new)
  gains_remembered g on new s = record {
    gate = (open_number gone heads G D g).1 s.gate;
    clear = λ a. s.clear (above_was gone heads numbers G D g on a);
    names = s.names;
    live = record {
      rising = s.live.rising;
      only = λ n c. let k = s.live.only n c in ((live_number gone heads G n).1 k.0, k.1, λ d. k.2 (direct_was gone heads g n d));
      each = λ n k. s.live.each n ((live_number gone heads G n).0 k.0, k.1, λ d. k.2 (direct_is gone heads g n (open_known gone heads G D g s.gate) d));
    };
    gained = ap (remembered gone) s.gained ∙ remembered_map gone (gains g s.names) (gains_number g s.names) heads;
  }
