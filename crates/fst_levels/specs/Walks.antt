-- What a walk keeps beside the heads.
use Rattle.std.specs.Prelude.{◌≡◌, ◌≢◌, ◌⊎◌, ◌≤◌, ◌++◌, ◌∷◌, [], ℕ, Bool, true, false, List, length, map, Contains, AllPairs, slice_index_or}
use Rattle.fst_heads.specs.{Heads.patch_of, Tests.passes, declared.head.Head.Head, declared.test.Test.Test}

-- a mark for each head, the indices of the heads that were met, in the order in which they were met, and for how many heads there is room
pub record Trail : Type 0 where
  pub marks : List Bool
  pub met : List ℕ
  pub room : ℕ

-- exactly the indices that were met are marked
pub record AreMarked (marks : List Bool) (met : List ℕ) : Type 0 where
  pub only : (index : ℕ) → slice_index_or marks index false ≡ true → Contains met index
  pub each : (index : ℕ) → Contains met index → slice_index_or marks index false ≡ true

-- each of them was met once, and there is room for all
pub record IsSound (trail : Trail) (marks_capacity met_capacity : ℕ) : Type 0 where
  pub marked : AreMarked trail.marks trail.met
  pub once : AllPairs (λ s t. s ≢ t) trail.met
  pub few : length trail.marks ≤ trail.room
  pub marks_room : trail.room ≤ marks_capacity
  pub met_room : trail.room ≤ met_capacity

-- the index was met besides, if it was not met before
pub record Meets (index : ℕ) (old new : Trail) : Type 0 where
  pub long : length new.marks ≡ length old.marks
  pub room : new.room ≡ old.room
  pub met : (Contains old.met index × (new.met ≡ old.met)) ⊎ (new.met ≡ old.met ++ index ∷ [])

-- the number of the head at the index
abbrev pub number_at : List Head → ℕ → ℕ
number_at heads index = slice_index_or (map (λ h. h.number) heads) index 0

-- the numbers of those that were met
abbrev pub numbers_met : List Head → Trail → List ℕ
numbers_met heads trail = map (number_at heads) trail.met

-- the patch at the index passes
abbrev pub passes_in : Test → List Head → ℕ → Bool
passes_in t heads index = slice_index_or (map (λ h. passes t (patch_of h)) heads) index false
