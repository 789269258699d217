-- The whole rows of changes whose heads keep only a part of them, so that the rest is below that part.
use Rattle.std.specs.Prelude.{◌&&◌, ◌||◌, ◌≤◌, ◌++◌, ◌∷◌, [], nat_lt, ℕ, List, Contains, map, filter}
use Rattle.fst_types.specs.{Bytes.content_of, Dependencies.{DependsOn, IsLiveNumber}, Facts.HeadsAreLawful, Patches.{Kind, Change, Empty, OpenGate, SealedGate, Patch}, Tests.{is_among, is_live}}
use Rattle.fst_heads.specs.Rows.{touches}
use Rattle.fst_graph.specs.Known.{Known}

-- the first row kept under the number, or none
abbrev pub row_under : List (ℕ × List ℕ) → ℕ → List ℕ
row_under rows n = content_of rows n

-- the whole row of a patch: of a change that which is kept under its number, else its own
abbrev pub row_of_kind : List (ℕ × List ℕ) → Kind → ℕ → List ℕ → List ℕ
row_of_kind rows (Change block at len grade) n own = row_under rows n
row_of_kind rows Empty n own = own
row_of_kind rows OpenGate n own = own
row_of_kind rows SealedGate n own = own

-- the patch with its whole row
abbrev pub whole : List (ℕ × List ℕ) → Patch → Patch
whole rows p = record p { dependencies = row_of_kind rows p.kind p.number p.dependencies }

-- what is known, with whole rows
abbrev pub whole_known : List (ℕ × List ℕ) → Known → Known
whole_known rows k = record k { heads = map (whole rows) k.heads }

-- what each head keeps is in its whole row, of which each live one is below what it keeps; rows are kept of given numbers alone
pub record IsSparseOf (rows : List (ℕ × List ℕ)) (heads : List Patch) (numbers : ℕ) : Type 0 where
  pub only : (p : Patch) (q : ℕ) → Contains heads p → Contains p.dependencies q → Contains (whole rows p).dependencies q
  pub below : (p : Patch) (q : ℕ) → Contains heads p → Contains (whole rows p).dependencies q → IsLiveNumber heads q → DependsOn heads p.number q
  pub given : (e : ℕ × List ℕ) → Contains rows e → e.0 ≤ numbers

-- the whole row of a change with that number: the live patches before it that are named or share a byte with it
abbrev pub whole_row : List Patch → ℕ → List ℕ → (b at len : ℕ) → List ℕ
whole_row heads number after b at len =
    map (λ p. p.number) (filter (λ p. nat_lt p.number number && (touches b at len p || (is_live p && is_among after p.number))) heads)

-- with the whole row of a new change, told by the patches after it
abbrev pub with_row : List (ℕ × List ℕ) → List Patch → ℕ → List ℕ → (b at len : ℕ) → List (ℕ × List ℕ)
with_row rows heads number after b at len = rows ++ (number, whole_row heads number after b at len) ∷ []

-- the patches with whole rows are lawful, and what each head keeps tells the rest
pub record AreWhole (rows : List (ℕ × List ℕ)) (heads : List Patch) (numbers : ℕ) : Type 0 where
  pub lawful : HeadsAreLawful (map (whole rows) heads) numbers
  pub sparse : IsSparseOf rows heads numbers
