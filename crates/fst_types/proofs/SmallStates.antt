-- Small states for worked examples, and what a look through their lists shows.
use Rattle.std.proofs.Common.{◌≡◌, ◌+◌, ℕ, Bool, true, false, not, List, [], ◌∷◌, Contains, None, refl, sym, ap, subst, ◌∙◌, inl, inr, arith}
use Rattle.std.specs.Prelude.{◌==◌, ◌||◌}
use Rattle.std.specs.List.{list_all}
use Rattle.fst_types.specs.declared.place.Place.{Place}
use Rattle.fst_types.specs.Closure.{one, join}
use Rattle.fst_types.specs.Lists.{Lists}
use Rattle.fst_types.specs.Patches.{Kind, Patch}
use Rattle.fst_types.specs.Tests.{is_among}
use Rattle.fst_types.specs.Dependencies.{DirectlyOn, DependsOn, IsLiveNumber}
use Rattle.fst_types.specs.Groups.{Group}
use Rattle.fst_types.specs.State.{State}
use Rattle.fst_types.specs.Order.{NamesAbove}
use Rattle.fst_types.proofs.Finite.{In, In-from_Contains}
use Rattle.fst_types.proofs.Issuing.{in_among}
use Rattle.fst_types.proofs.Numbers.{both, equal_test}

-- what holds of each item of a list
all_in : {X : Type 0} (t : X → Bool) (xs : List X) (x : X) → In xs x → list_all t xs ≡ true → t x ≡ true
all_in t [] x h e = absurd h
all_in t (y ∷ ys) x (inl same) e = subst (λ z. t z ≡ true) same (both (t y) (list_all t ys) e).0
all_in t (y ∷ ys) x (inr h) e = all_in t ys x h (both (t y) (list_all t ys) e).1

abbrev pub AllOf : {X : Type 0} → (X → Type 0) → List X → Type 0
AllOf P [] = Unit {0}
AllOf P (x ∷ xs) = P x × AllOf P xs

pub each_of : {X : Type 0} (P : X → Type 0) (all : List X) → AllOf P all → (x : X) → Contains all x → P x
each_of {X} P all holds x h = within all holds (In-from_Contains all x h)
  where
    within : (xs : List X) → AllOf P xs → In xs x → P x
    within [] a i = absurd i
    within (y ∷ ys) a (inl e) = subst P e a.0
    within (y ∷ ys) a (inr i) = within ys a.1 i

pub only_in : (x y : ℕ) → Contains (x ∷ []) y → x ≡ y
only_in x y c = elim (In-from_Contains (x ∷ []) y c) [ inl e ↦ e | inr h ↦ absurd h ]

-- a test that passes down from a patch to what it directly depends on passes down all the way
abbrev is_downward : (ℕ → Bool) → List Patch → Bool
is_downward t heads = list_all (λ p. not (t p.number) || list_all t p.dependencies) heads

passes : (x y : Bool) → x ≡ true → (not x || y) ≡ true → y ≡ true
passes true y e k = k
passes false y e k = cc

pub down : (t : ℕ → Bool) (heads : List Patch) → is_downward t heads ≡ true → (a b : ℕ) → DependsOn heads a b → t a ≡ true → t b ≡ true
down t heads passing a b (one d) e =
    all_in t d.patch.dependencies b (In-from_Contains d.patch.dependencies b d.named)
    (passes (t d.patch.number) (list_all t d.patch.dependencies) (ap t d.numbered ∙ e) (all_in (λ p. not (t p.number) || list_all t p.dependencies) heads d.patch (In-from_Contains heads d.patch d.head) passing))
down t heads passing a b (join {q = m} d f) e = down t heads passing m b f (down t heads passing a m d e)

-- n is not among what g directly depends on
pub not_direct : (heads : List Patch) (g n : ℕ) → list_all (λ p. not (p.number == g) || not (is_among p.dependencies n)) heads ≡ true → DirectlyOn heads g n → ⊥
not_direct heads g n none d =
    neither (d.patch.number == g) (is_among d.patch.dependencies n) (equal_test d.patch.number g d.numbered) (in_among d.patch.dependencies n (In-from_Contains d.patch.dependencies n d.named))
    (all_in (λ p. not (p.number == g) || not (is_among p.dependencies n)) heads d.patch (In-from_Contains heads d.patch d.head) none)
  where
    neither : (x y : Bool) → x ≡ true → y ≡ true → (not x || not y) ≡ true → ⊥
    neither true true a b k = cc
    neither true false a b k = cc
    neither false y a b k = cc

-- one name, which is not the gate and does not depend on it
pub none_above : (heads : List Patch) (g n : ℕ) → (n ≡ g → ⊥) → (DependsOn heads n g → ⊥) → NamesAbove heads g (n ∷ []) → ⊥
none_above heads g n other free above =
    let e = only_in n above.0 above.1 in
    elim above.2 [ inl same ↦ other (e ∙ same) | inr d ↦ free (subst (λ x. DependsOn heads x g) (sym e) d) ]

-- one live name, which the gate does not have yet
pub one_name : (heads : List Patch) (g n : ℕ) → IsLiveNumber heads n → (DirectlyOn heads g n → ⊥) → Lists (λ m. IsLiveNumber heads m × Contains (n ∷ []) m × (DirectlyOn heads g m → ⊥)) (n ∷ [])
one_name heads g n live unnamed = record {
  rising = λ k h. omega (arith, h);
  only = λ m c. subst (λ (x : ℕ). IsLiveNumber heads x × Contains (n ∷ []) x × (DirectlyOn heads g x → ⊥)) (only_in n m c) (live, (0, omega arith, refl), unnamed);
  each = λ m p. p.1;
}

-- the patches, the blocks and the groups of the states below: four blocks of four zero bytes
abbrev pub patch_of : ℕ → Kind → Place → List ℕ → Patch
patch_of number kind at dependencies = record { number = number; kind = kind; place = at; dependencies = dependencies }

abbrev pub group_of : ℕ → List ℕ → Bool → List ℕ → Group
group_of head members closed after = record { head = head; tail = head + 1; members = members; closed = closed; after = after }

abbrev pub state_of : ℕ → List Patch → List (ℕ × List ℕ) → List Group → State
state_of numbers heads contents groups = record {
  size = 4;
  resident = 4;
  numbers = numbers;
  tickets = 0;
  made = numbers;
  heads = heads;
  contents = contents;
  blocks =
      record { committed = 0 ∷ 0 ∷ 0 ∷ 0 ∷ []; flight = None }
      ∷ record { committed = 0 ∷ 0 ∷ 0 ∷ 0 ∷ []; flight = None } ∷ record { committed = 0 ∷ 0 ∷ 0 ∷ 0 ∷ []; flight = None } ∷ record { committed = 0 ∷ 0 ∷ 0 ∷ 0 ∷ []; flight = None } ∷ [];
  groups = groups;
}
