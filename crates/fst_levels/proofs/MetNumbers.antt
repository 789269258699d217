-- The numbers of what a walk has met, and their indices.
use Rattle.std.proofs.Common.{◌≡◌, ◌<◌, ℕ, List, [], length, map, get_or, Contains, sym, ap, subst, ◌∙◌, arith}
use Rattle.std.proofs.lemmas.{List.{get_or-map, length-map}}
use Rattle.fst_heads.specs.{Heads.{IsRising}, Indices.HasIndex, declared.head.Head.Head}
use Rattle.fst_heads.proofs.{Placed.unmapped, Indices.{index_unique, some_element}, Waiting.mapped}
use Rattle.fst_levels.specs.Walks.{Trail, number_at, numbers_met}

-- the number of an index
pub index_number : (heads : List Head) (n s : ℕ) → HasIndex heads n s → number_at heads s ≡ n
index_number heads n s index = let d = some_element heads s index.0 in get_or-map (λ (h : Head). h.number) heads s d 0 index.0 ∙ index.1 d

pub index_at : (heads : List Head) (s : ℕ) → s < length heads → HasIndex heads (number_at heads s) s
index_at heads s lt = (lt, λ d. sym (get_or-map (λ (h : Head). h.number) heads s d 0 lt))

-- what was met in turn
pub met_at : (heads : List Head) (walk : Trail) (at : ℕ) → at < length walk.met → get_or (numbers_met heads walk) at 0 ≡ number_at heads (get_or walk.met at 0)
met_at heads walk at lt = get_or-map (number_at heads) walk.met at 0 0 lt

pub index_met : (heads : List Head) (walk : Trail) (at s : ℕ) → length walk.marks ≡ length heads → at < length walk.met → s ≡ get_or walk.met at 0 → s < length walk.marks → HasIndex heads (get_or (numbers_met heads walk) at 0) s
index_met heads walk at s long lt is inside =
    subst (λ n. HasIndex heads n s) (ap (number_at heads) is ∙ sym (met_at heads walk at lt)) (index_at heads s (omega (arith, inside, long)))

-- as many numbers as indices
pub long_met : (heads : List Head) (walk : Trail) → length (numbers_met heads walk) ≡ length walk.met
long_met heads walk = length-map walk.met (number_at heads)

-- a number was met where its index was
pub number_of_met : (heads : List Head) (walk : Trail) (n s : ℕ) → HasIndex heads n s → Contains walk.met s → Contains (numbers_met heads walk) n
number_of_met heads walk n s index c = subst (Contains (numbers_met heads walk)) (index_number heads n s index) (mapped (number_at heads) walk.met s c)

-- and an index where its number was
pub met_index : (heads : List Head) (walk : Trail) → IsRising heads → length walk.marks ≡ length heads → ((s : ℕ) → Contains walk.met s → s < length walk.marks) → (n s : ℕ) → HasIndex heads n s → Contains (numbers_met heads walk) n → Contains walk.met s
met_index heads walk rising long inside n s index c =
    let r = unmapped (number_at heads) walk.met n c in
    let lt = inside r.0 r.1 in
    let own : HasIndex heads n r.0 = subst (λ k. HasIndex heads k r.0) r.2 (index_at heads r.0 (omega (arith, lt, long))) in
    subst (Contains walk.met) (index_unique heads n r.0 s rising own index) r.1

-- nothing was met
pub none_met : (heads : List Head) (walk : Trail) → walk.met ≡ [] → numbers_met heads walk ≡ []
none_met heads walk none = ap (map (number_at heads)) none
