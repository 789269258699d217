-- What callers see of a chain: a list of records, each with a payload of bytes.
use Rattle.std.specs.Prelude.{◌≡◌, ℕ, zero, suc, List, [], ◌∷◌, map, length, slice_index_or}
use mathlib.Core.Path.{refl, ap}
use denote.RawPtr.{Ptr}

-- the records and payloads of a chain. Its value also shows where its nodes lie, of which no public clause speaks
abbrev pub chain_list : {X : Type 0} → List Ptr × List (X × List ℕ) → List (X × List ℕ)
chain_list c = c.1

-- the list but for its i-th item
abbrev pub without : {X : Type 0} → List X → ℕ → List X
without [] i = []
without (x ∷ xs) zero = xs
without (x ∷ xs) (suc i) = x ∷ without xs i

module _ {X : Type 0} where
  -- the i-th record, or d where there is none
  abbrev pub item_at : List (X × List ℕ) → ℕ → X → X
  item_at rs i d = (slice_index_or rs i (d, [])).0

  -- the payload of the i-th record
  abbrev pub payload_at : List (X × List ℕ) → ℕ → List ℕ
  payload_at rs i = slice_index_or (map (λ r. r.1) rs) i []

  -- the same records with p as the payload of the i-th
  abbrev pub set_payload : List (X × List ℕ) → ℕ → List ℕ → List (X × List ℕ)
  set_payload [] i p = []
  set_payload (r ∷ rs) zero p = (r.0, p) ∷ rs
  set_payload (r ∷ rs) (suc i) p = r ∷ set_payload rs i p

  -- the same list with w as the i-th record
  abbrev pub set_item : List (X × List ℕ) → ℕ → X → List (X × List ℕ)
  set_item [] i w = []
  set_item (r ∷ rs) zero w = (w, r.1) ∷ rs
  set_item (r ∷ rs) (suc i) w = r ∷ set_item rs i w

  pub length-set_item : (rs : List (X × List ℕ)) (i : ℕ) (w : X) → length rs ≡ length (set_item rs i w)
  length-set_item [] i w = refl
  length-set_item (r ∷ rs) zero w = refl
  length-set_item (r ∷ rs) (suc i) w = ap suc (length-set_item rs i w)
