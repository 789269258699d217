-- How blocks come to be reached.
use Rattle.fst_heads.proofs.Basics.{◌≡◌, ℕ, ◌<◌, Bool, true, List, length, set, Contains, sym, subst, ◌∙◌, arith, get_or-set_same, get_or-set_other, cases_eq}
use Rattle.fst_heads.proofs.{Patches.{Patch}, Words.{Head, IsRising, patches_of, HasIndex}}
use Rattle.fst_heads.proofs.Indices.{some_element, index_in, patch_index, patch_is}
use Rattle.fst_heads.specs.Reaching.{IsReached}

-- a number is that of one patch
pub same_patch : (heads : List Head) (p q : Patch) → IsRising heads → Contains (patches_of heads) p → Contains (patches_of heads) q → p.number ≡ q.number → p ≡ q
same_patch heads p q rising a b e =
    let s = index_in heads p a in
    let d = some_element heads s.0 s.1 in
    sym (s.2 d) ∙ patch_is heads q s.0 d rising b (subst (λ n. HasIndex heads n s.0) e (patch_index heads p s.0 s.1 s.2))

-- one more block is shown
pub reached_more : (reached : List Bool) (b c : ℕ) → b < length reached → IsReached reached c → IsReached (set reached b true) c
reached_more reached b c inside r = grind (arith, cases_eq, get_or-set_same, get_or-set_other)
