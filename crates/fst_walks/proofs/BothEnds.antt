-- What the walks meet that look for a way back from both its ends, and the steps of the ways that they take.
use Rattle.std.proofs.Common.{◌≡◌, ℕ, Bool, List, Contains, refl, subst, inl, inr}
use Rattle.fst_types.specs.{Closure.{Closure, one, join}, Dependencies.{DependsOn}}
use Rattle.fst_types.specs.{Patches.{Patch}}
use Rattle.fst_heads.specs.{Reaching.{ShowsBlocks}}
use Rattle.fst_walks.specs.{BothEnds.StepsAway, Descending.IsLedFrom}
use Rattle.fst_levels.specs.WayBack.{StepsBack, StepsUp}
use Rattle.fst_levels.proofs.NoWayBack.{Leads}

-- what a walk meets is where steps lead from one of those from which it starts
pub led_leads : (E : ℕ → ℕ → Type 0) (start : List ℕ) (n : ℕ) → IsLedFrom E start n → (s : ℕ) × Contains start s × Leads E s n
led_leads E start n (inl c) = (n, c, inl refl)
led_leads E start n (inr r) = (r.0, r.1, inr r.2)

pub leads_led : (E : ℕ → ℕ → Type 0) (start : List ℕ) (s n : ℕ) → Contains start s → Leads E s n → IsLedFrom E start n
leads_led E start s n c (inl e) = inl (subst (Contains start) e c)
leads_led E start s n c (inr path) = inr (s, c, path)

-- what a way down to the first changes of other blocks leads to, it depends on
pub away_depends : (patches : List Patch) (over level : ℕ → ℕ) (least b p q : ℕ) → Closure (StepsAway patches over level least b) p q → DependsOn patches p q
away_depends patches over level least b p q (one s) = one s.1
away_depends patches over level least b p q (join {q = k} c d) = join (away_depends patches over level least b p k c) (away_depends patches over level least b k q d)

-- where b alone is shown as crossed, steps of a walk up are such steps
module _ (patches : List Patch) (b : ℕ) (crossed : List Bool) (shown : ShowsBlocks crossed (λ c. c ≡ b)) where
  up_back : (p q : ℕ) → StepsUp patches crossed p q → StepsBack patches b p q
  up_back p q s = elim s [ inl up ↦ inl up | inr k ↦ inr (record { block = k.block; other = λ e. k.fresh (shown.each k.block e); hard = k.hard; change = k.change }) ]

  back_up : (p q : ℕ) → StepsBack patches b p q → StepsUp patches crossed p q
  back_up p q s = elim s [ inl up ↦ inl up | inr k ↦ inr (record { block = k.block; hard = k.hard; fresh = λ r. k.other (shown.only k.block r); change = k.change }) ]

  pub ups_back : (p q : ℕ) → Closure (StepsUp patches crossed) p q → Closure (StepsBack patches b) p q
  ups_back p q (one s) = one (up_back p q s)
  ups_back p q (join {q = k} c d) = join (ups_back p k c) (ups_back k q d)

  pub backs_up : (p q : ℕ) → Closure (StepsBack patches b) p q → Closure (StepsUp patches crossed) p q
  backs_up p q (one s) = one (back_up p q s)
  backs_up p q (join {q = k} c d) = join (backs_up p k c) (backs_up k q d)
