-- Of what was met, what passes a test.
use Rattle.std.proofs.Common.{◌≡◌, ◌↔◌, ◌<◌, ℕ, List, false, true, filter, length, get_or, Contains, sym, subst, ◌∙◌}
use Rattle.std.proofs.lemmas.List.{get_or-map}
use Rattle.fst_types.proofs.{Dropping.{filter_in, in_filter}, Finite.{In-from_Contains, Contains-from_In}}
use Rattle.fst_heads.specs.{Heads.{IsRising, patch_of, patches_of}, Indices.{PassesAt, HasIndex}, Tests.passes, declared.head.Head.Head, declared.test.Test.Test}
use Rattle.fst_heads.proofs.{Placed.unmapped, Indices.some_element}
use Rattle.fst_levels.specs.Walks.{Trail, number_at, numbers_met, passes_in}
use Rattle.fst_levels.proofs.{NearRow.{passes_here, here_passes}, MetNumbers.{index_at, number_of_met}}

module _ (t : Test) (heads : List Head) (rising : IsRising heads) (n s : ℕ) (index : HasIndex heads n s) where
  passes_there : passes_in t heads s ≡ passes t (patch_of (get_or heads s (some_element heads s index.0)))
  passes_there = get_or-map (λ (h : Head). passes t (patch_of h)) heads s (some_element heads s index.0) false index.0

  pub from_index : passes_in t heads s ≡ true → PassesAt t (patches_of heads) n
  from_index e = passes_here heads rising n s (some_element heads s index.0) index t (sym passes_there ∙ e)

  pub to_index : PassesAt t (patches_of heads) n → passes_in t heads s ≡ true
  to_index p = passes_there ∙ here_passes heads rising n s (some_element heads s index.0) index t p

-- exactly the numbers that pass are kept
pub kept_numbers : (t : Test) (heads : List Head) → IsRising heads → (old new : Trail) → length old.marks ≡ length heads → ((s : ℕ) → Contains old.met s → s < length old.marks) → new.met ≡ filter (passes_in t heads) old.met
    → (n : ℕ) → Contains (numbers_met heads new) n ↔ (Contains (numbers_met heads old) n × PassesAt t (patches_of heads) n)
kept_numbers t heads rising old new long inside same n = (
  λ c.
      let r = unmapped (number_at heads) new.met n c in
      let k = filter_in (passes_in t heads) old.met r.0 (In-from_Contains (filter (passes_in t heads) old.met) r.0 (subst (λ ms. Contains ms r.0) same r.1)) in
      let own = Contains-from_In old.met r.0 k.0 in
      let index : HasIndex heads n r.0 = subst (λ m. HasIndex heads m r.0) r.2 (index_at heads r.0 (subst (λ l. r.0 < l) long (inside r.0 own))) in
      (number_of_met heads old n r.0 index own, from_index t heads rising n r.0 index k.1),
  λ k.
      let r = unmapped (number_at heads) old.met n k.0 in
      let index : HasIndex heads n r.0 = subst (λ m. HasIndex heads m r.0) r.2 (index_at heads r.0 (subst (λ l. r.0 < l) long (inside r.0 r.1))) in
      let kept = Contains-from_In (filter (passes_in t heads) old.met) r.0 (in_filter (passes_in t heads) old.met r.0 (In-from_Contains old.met r.0 r.1) (to_index t heads rising n r.0 index k.1)) in
      number_of_met heads new n r.0 index (subst (λ ms. Contains ms r.0) (sym same) kept),
)
