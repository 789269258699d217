-- Ancestors: for a patch the numbers of patches that it depends on, so that it is told in few steps that a way leads down from it to one far below. And for some the number of one that depends on them.
use Rattle.std.specs.Prelude.{◌≡◌, ◌≢◌, ◌<◌, ◌⊎◌, ℕ, List, Contains}
use Rattle.fst_types.specs.{Dependencies.DependsOn, Patches.Patch}
use Rattle.fst_heads.specs.Grading.{HasUnder}
use Rattle.fst_levels.specs.declared.levels.Ancestry.{Ancestry}

-- each patch depends on its ancestor, unless that is forgotten, and the ancestor is older
pub record AreOver (patches : List Patch) (ancestor : ℕ → ℕ) : Type 0 where
  pub over : (p q : Patch) → Contains patches p → Contains patches q → ancestor p.number ≡ q.number → DependsOn patches p.number q.number
  pub older : (p : Patch) → Contains patches p → ancestor p.number < p.number

-- a may be an ancestor of patch n over that row: it is older, and unless it is forgotten it is in the row or below it
pub record MayStandUnder (patches : List Patch) (n : ℕ) (row : List ℕ) (a : ℕ) : Type 0 where
  pub older : a < n
  pub under : (q : Patch) → Contains patches q → a ≡ q.number → HasUnder patches row (λ m. m ≡ a)

-- both ancestors may
pub record GoesUnder (patches : List Patch) (n : ℕ) (row : List ℕ) (ancestry : Ancestry) : Type 0 where
  pub parent : MayStandUnder patches n row ancestry.parent
  pub jump : MayStandUnder patches n row ancestry.jump

-- the patch that is kept over one, if there is one, depends on it
abbrev pub AreUnder : List Patch → (ℕ → ℕ) → Type 0
AreUnder patches over = (p : Patch) → Contains patches p → over p.number ≢ 0 → DependsOn patches (over p.number) p.number

-- each of them is n or lies below it
abbrev pub LieUnder : List Patch → ℕ → List ℕ → Type 0
LieUnder patches n met = (m : ℕ) → Contains met m → (n ≡ m) ⊎ DependsOn patches n m

-- n is p, or p depends on it, unless n is forgotten
abbrev pub LeadsTo : List Patch → ℕ → ℕ → Type 0
LeadsTo patches p n = (q : Patch) → Contains patches q → q.number ≡ n → (p ≡ n) ⊎ DependsOn patches p n
