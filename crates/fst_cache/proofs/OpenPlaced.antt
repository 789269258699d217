-- Slots, each at its place and of the size.
use Rattle.std.proofs.Common.{◌≡◌, ◌≢◌, ◌<◌, ℕ, zero, suc, List, [], ◌∷◌, map, refl, sym, ap, ◌∙◌, arith, length, get_or}
use Rattle.std.proofs.lemmas.List.{length-map, get_or-map}
use Rattle.fst_types.specs.Order.{IsMisplaced, IsMissized}

pub there : {X : Type 0} (xs : List X) (k : ℕ) → k < length xs → X
there [] k h = absurd (omega arith)
there (x ∷ xs) zero h = x
there (x ∷ xs) (suc k) h = there xs k (omega arith)

pub map-twice : {X Y Z : Type 0} (f : Y → Z) (g : X → Y) (xs : List X) → map f (map g xs) ≡ map (λ x. f (g x)) xs
map-twice f g [] = refl
map-twice f g (x ∷ xs) = ap (λ zs. f (g x) ∷ zs) (map-twice f g xs)

pub not_misplaced : {X : Type 0} (f : X → ℕ) (xs : List X) → ((k : ℕ) (d : X) → k < length xs → f (get_or xs k d) ≡ k) → IsMisplaced (map f xs) → ⊥
not_misplaced f xs each h =
    let lt : h.0 < length xs = rw length-map at h.1 in
    let d = there xs h.0 lt in
    h.2 (get_or-map f xs h.0 d 0 lt ∙ each h.0 d lt)

pub not_missized : {X : Type 0} (f : X → ℕ) (size : ℕ) (xs : List X) → ((k : ℕ) (d : X) → k < length xs → f (get_or xs k d) ≡ size) → IsMissized size (map f xs) → ⊥
not_missized f size xs each h =
    let lt : h.0 < length xs = rw length-map at h.1 in
    let d = there xs h.0 lt in
    h.2 (get_or-map f xs h.0 d 0 lt ∙ each h.0 d lt)

pub stable : (m n : ℕ) → ((m ≢ n) → ⊥) → m ≡ n
stable m n h = grind (arith, h)

-- the other way
pub sized_each : {X : Type 0} (f : X → ℕ) (size : ℕ) (xs : List X) → (IsMissized size (map f xs) → ⊥) → (k : ℕ) (d : X) → k < length xs → f (get_or xs k d) ≡ size
sized_each f size xs none k d lt = stable (f (get_or xs k d)) size (λ differs. none (k, rw length-map lt, λ e. differs (sym (get_or-map f xs k d 0 lt) ∙ e)))
