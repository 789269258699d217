-- What forgetting leaves of what the fields keep.
use Rattle.fst_heads.proofs.Basics.{◌≡◌, ℕ, ◌+◌, ◌==◌, ◌&&◌, Bool, true, false, not, List, [], ◌∷◌, length, filter, count_by, Contains, refl, ap, subst, ◌∙◌, inl, inr, arith, items_where_true, cases_Bool, eqb-true, eq-eqb, false≢true, length-filter, common_steps}
use Rattle.std.specs.List.Retain.{IsFiltered, ReturnsInTurn}
use Rattle.fst_heads.proofs.Patches.{Place, Patch, IsLiveNumber, is_at, is_live, In-from_Contains, Contains-from_In, filter_in, sparse_dropped}
use Rattle.fst_heads.proofs.Patches.place
use Rattle.fst_heads.proofs.Words.{Head, is_live_in, Keeps, nodes_of, patch_of}
use Rattle.fst_types.proofs.Numbers.{not_disk}
pub use Rattle.std.proofs.lemmas.Bool.{and_parts}

-- the live heads stand for the live nodes
pub live_heads : (heads : List Head) → nodes_of (filter (λ h. is_live (patch_of h)) heads) ≡ filter (λ x. is_live x.patch) (nodes_of heads)
live_heads [] = refl
live_heads (h ∷ hs) = grind (arith, cases_Bool, live_heads hs)

pub live_place_of : (p : Place) → (p ≡ place.Disk → ⊥) → not (is_at p place.Disk) ≡ true
live_place_of place.Disk n = absurd (n refl)
live_place_of p n = refl

pub live_in : (heads : List Patch) (n : ℕ) → is_live_in heads n ≡ true → IsLiveNumber heads n
live_in [] n e = absurd (false≢true e)
live_in (p ∷ ps) n e = elim (cases_Bool (is_live p && (p.number == n))) [
  | inl t ↦ let k = and_parts (is_live p) (p.number == n) t in record { patch = p; head = (0, omega arith, refl); numbered = eqb-true p.number n k.1; live = not_disk p.place k.0 }
  | inr f ↦
      let r = live_in ps n (rw f at e) in
      record { patch = r.patch; head = Contains-from_In (p ∷ ps) r.patch (inr (In-from_Contains ps r.patch r.head)); numbered = r.numbered; live = r.live }
]

pub in_live : (heads : List Patch) (n : ℕ) → IsLiveNumber heads n → is_live_in heads n ≡ true
in_live heads n l = grind (arith, common_steps, live_place_of, eq-eqb, cases_Bool)

split : (heads : List Patch) → length (filter is_live heads) + length (filter (λ p. is_at p.place place.Disk) heads) ≡ length heads
split [] = refl
split (p ∷ ps) = grind (arith, cases_Bool, split ps)

pub counted : (heads : List Patch) → length (filter is_live heads) + count_by (λ p. is_at p.place place.Disk) heads ≡ length heads
counted heads = let s = split heads in let c = length-filter (λ (p : Patch). is_at p.place place.Disk) heads in omega (arith, s, c)

module _ (heads : List Patch) (numbers blocks : ℕ) (marks : List Bool) (K : Keeps heads numbers blocks marks) where
  abbrev new : List Patch
  new = filter is_live heads

  was : (p : Patch) → Contains new p → Contains heads p × (is_live p ≡ true)
  was p c = let r = filter_in is_live heads p (In-from_Contains new p c) in (Contains-from_In heads p r.0, r.1)

  pub keeps_dropped : (marks' : List Bool) → length marks' ≡ length new → Keeps new numbers blocks marks'
  keeps_dropped marks' long = record {
    lawful = sparse_dropped heads numbers K.lawful;
    inside = λ p b c on. K.inside p b (was p c).0 on;
    marked = long;
  }

-- what a `retain` keeps whose test does not change what it holds
pub filter_from_test : {X F : Type 0} (R : F → X → Bool → F → Type 0) (test : X → Bool) (f : F) → ((x : X) (b : Bool) (g : F) → R f x b g → (b ≡ test x) × (g ≡ f)) → (xs ys : List X) → IsFiltered R f xs ys → ys ≡ filter test xs
filter_from_test {X} {F} R test f says xs ys (bs, q, long, runs, same) = same ∙ go xs bs f refl long runs
  where
    go : (xs : List X) (bs : List Bool) (p : F) → p ≡ f → length bs ≡ length xs → ReturnsInTurn R p bs xs q → items_where_true bs xs ≡ filter test xs
    go [] [] p e l r = refl
    go [] (b ∷ bs) p e l r = absurd (omega (arith, l))
    go (x ∷ xs) [] p e l r = absurd (omega (arith, l))
    go (x ∷ xs) (true ∷ bs) p e l r = let k = says x true r.0 (subst (λ s. R s x true r.0) e r.1) in rw (← k.0) (ap (λ zs. x ∷ zs) (go xs bs r.0 k.1 (omega (arith, l)) r.2))
    go (x ∷ xs) (false ∷ bs) p e l r = let k = says x false r.0 (subst (λ s. R s x false r.0) e r.1) in rw (← k.0) (go xs bs r.0 k.1 (omega (arith, l)) r.2)
