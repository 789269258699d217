-- A new empty patch.
use Rattle.std.proofs.Common.{◌≡◌, ◌⊎◌, ℕ, ◌+◌, ◌≤◌, List, [], ◌∷◌, ◌++◌, Contains, refl, sym, ap, subst, ◌∙◌, inl, inr, arith}
use Rattle.std.proofs.lemmas.{List.{map_push}, List.Elements.{Contains-push_cases, Contains-append_left}}
use Rattle.fst_types.specs.{Cascade.{Follows, RestsOnDisk, IsCascadeOf, unsettled}, Dependencies.{IsLiveNumber, IsOnDisk}, Facts.SparseAreLawful}
use Rattle.fst_types.specs.{Lists.Lists, Making.fresh, Patches.{Patch, Empty}, declared.place.Place.Place}
use Rattle.fst_graph.specs.Known.{rest_place}
use Rattle.fst_types.proofs.{Cascades.no_follower_on, Heads.sparse_emptied}
use Rattle.fst_types.specs.declared.place.Place.TheVariants as place

not_flight : (p : Place) → (p ≡ place.Flight → ⊥) → (p ≡ place.Memory) ⊎ (p ≡ place.Disk)
not_flight place.Memory h = inl refl
not_flight place.Flight h = absurd (h refl)
not_flight place.Disk h = inr refl

abbrev pub new_empty : ℕ → List ℕ → Patch
new_empty numbers deps = record { number = numbers + 1; kind = Empty; place = rest_place deps; dependencies = deps }

rest_cases : (deps : List ℕ) → (rest_place deps ≡ place.Memory) ⊎ (rest_place deps ≡ place.Disk)
rest_cases [] = inr refl
rest_cases (x ∷ xs) = inl refl

rest_disk : (deps : List ℕ) → rest_place deps ≡ place.Disk → deps ≡ []
rest_disk [] e = refl
rest_disk (x ∷ xs) e = cc

disk_rest : (deps : List ℕ) → ((q : ℕ) → Contains deps q → ⊥) → rest_place deps ≡ place.Disk
disk_rest [] none = refl
disk_rest (x ∷ xs) none = absurd (none x (0, omega arith, refl))

module _ (heads : List Patch) (numbers : ℕ) (H : SparseAreLawful heads numbers)
    (after deps : List ℕ) (depends : Lists (λ n. IsLiveNumber heads n × Contains after n) deps) where
  abbrev p : Patch
  p = new_empty numbers deps

  abbrev new : List Patch
  new = heads ++ p ∷ []

  newest : (x : Patch) → Contains new x → Contains heads x ⊎ (p ≡ x)
  newest x h = Contains-push_cases heads p x h

  named : (q : ℕ) → Contains deps q → q ≤ numbers
  named q c = let l = (depends.only q c).0 in let k = (H.one_place_each.numbered l.patch l.head).1 in omega (arith, k, l.numbered)

  disk_back : (q : ℕ) → IsOnDisk new q → IsOnDisk heads q
  disk_back q d x h e = d x (Contains-append_left heads (p ∷ []) x h) e

  disk_forth : (q : ℕ) → q ≤ numbers → IsOnDisk heads q → IsOnDisk new q
  disk_forth q le d x h e = elim (newest x h) [ inl o ↦ d x o e | inr s ↦ let k = ap (λ y. y.number) s in absurd (omega (arith, k, e, le)) ]

  follows_on_disk : (x : Patch) → Contains new x → Follows x.kind → x.place ≡ place.Disk → RestsOnDisk new x
  follows_on_disk x h f d q c = elim (newest x h) [
    | inl o ↦ disk_forth q (H.one_place_each.named x q o c) (H.on_disk_with_all.disk x o d q c)
    | inr s ↦
        let none = rest_disk deps (ap (λ y. y.place) s ∙ d) in
        let there : Contains [] q = subst (λ ds. Contains ds q) (sym (ap (λ y. y.dependencies) s) ∙ none) c in absurd (omega (arith, there.1))
  ]

  on_disk_follows : (x : Patch) → Contains new x → Follows x.kind → RestsOnDisk new x → x.place ≡ place.Disk
  on_disk_follows x h f rests = elim (newest x h) [
    | inl o ↦ H.on_disk_with_all.follows x o f (λ q c. disk_back q (rests q c))
    | inr s ↦ sym (ap (λ y. y.place) s) ∙ disk_rest deps (λ q c.
        let l = (depends.only q c).0 in
        l.live (disk_back q (rests q (subst (λ y. Contains y.dependencies q) s c)) l.patch l.head l.numbered))
  ]

  pub empty_cascade : IsCascadeOf (heads ++ fresh (numbers + 1) Empty deps ∷ []) new
  empty_cascade = record {
    same = map_push unsettled heads p ∙ sym (map_push unsettled heads (fresh (numbers + 1) Empty deps));
    places = λ x h f. elim (newest x h) [
      | inl o ↦ not_flight x.place (λ e. let c = H.on_disk_with_all.only_changes_fly x o e in no_follower_on x.kind c.0 c.1 f)
      | inr s ↦ subst (λ y. (y.place ≡ place.Memory) ⊎ (y.place ≡ place.Disk)) s (rest_cases deps)
    ];
    settled = λ x h f. (follows_on_disk x h f, on_disk_follows x h f);
  }

  pub empty_lawful : SparseAreLawful new (numbers + 1)
  empty_lawful = sparse_emptied heads new numbers after (numbers + 1) (record { next = refl; dependencies = deps; depends = depends; cascade = empty_cascade }) H
