-- What a way down to an open gate comes to is at or below its row, and whether a head is another open gate than one tells of its number.
use Rattle.std.proofs.Common.{◌≡◌, ◌⊎◌, ◌==◌, ◌&&◌, ◌∙◌, ℕ, Bool, true, not, List, Option, Some, None, IfSome, get_or, refl, sym, ap, subst, inl, inr, eq-eqb, ne_eqb}
use Rattle.std.proofs.lemmas.Bool.{and_parts, false≢true}
use Rattle.fst_types.specs.{Closure.join, Dependencies.DependsOn, Patches.Patch}
use Rattle.fst_heads.specs.{Grading.{HasUnder, IsOpenBut}, Heads.{IsRising, patch_of, patches_of}, Indices.HasIndex, Tests.passes, declared.head.Head.Head}
use Rattle.fst_heads.proofs.Graded.{passes_open, open_passes}
use Rattle.fst_levels.proofs.NearRow.{passes_here, here_passes}
use Rattle.fst_heads.specs.declared.test.Test.TheVariants as test

-- what holds of each of two holds of either
pub of_either : {X : Type 0} (P : X → Type 0) (one other result : Option X) → (result ≡ one) ⊎ (result ≡ other) → IfSome one P → IfSome other P → IfSome result P
of_either P one other result (inl e) first second = subst (λ o. IfSome o P) (sym e) first
of_either P one other result (inr e) first second = subst (λ o. IfSome o P) (sym e) second

-- what holds of a value gives what follows from it
pub of_some : {X : Type 0} (P Q : X → Type 0) (o : Option X) → ((x : X) → o ≡ Some x → P x → Q x) → IfSome o P → IfSome o Q
of_some P Q (Some x) follows p = follows x refl p
of_some P Q None follows p = p

-- what one under the row depends on is under the row
pub under_on : (patches : List Patch) (row : List ℕ) (n q : ℕ) → HasUnder patches row (λ m. m ≡ n) → DependsOn patches n q → HasUnder patches row (λ m. m ≡ q)
under_on patches row n q u on = (u.0, u.1, inr (q, elim u.2 [ inl e ↦ subst (λ m. DependsOn patches m q) (sym e) on | inr low ↦ join (subst (DependsOn patches u.0) low.2 low.1) on ], refl))

-- and where that has P, something under the row has
pub under_has : (patches : List Patch) (row : List ℕ) (P : ℕ → Type 0) (n : ℕ) → HasUnder patches row (λ m. m ≡ n) → P n → HasUnder patches row P
under_has patches row P n u has = (u.0, u.1, elim u.2 [ inl e ↦ inl (subst P (sym e) has) | inr low ↦ inr (low.0, low.1, subst P (sym low.2) has) ])

-- the head at the index tells of its number
module _ (heads : List Head) (rising : IsRising heads) (n s gate : ℕ) (index : HasIndex heads n s) (d : Head) (is : d ≡ get_or heads s d) (r : Bool) (told : r ≡ (not (d.number == gate) && passes test.Open (patch_of d))) where
  own : d.number ≡ n
  own = ap (λ (h : Head). h.number) is ∙ index.1 d

  said : passes test.Open (patch_of d) ≡ passes test.Open (patch_of (get_or heads s d))
  said = ap (λ (h : Head). passes test.Open (patch_of h)) is

  pub other_gate : r ≡ true → IsOpenBut (patches_of heads) (Some gate) n
  other_gate e =
      let k = and_parts (not (d.number == gate)) (passes test.Open (patch_of d)) (sym told ∙ e) in (
        passes_open (patches_of heads) n (passes_here heads rising n s d index test.Open (sym said ∙ k.1)),
        λ same. false≢true (sym (ap not (eq-eqb d.number gate (own ∙ same))) ∙ k.0),
      )

  pub gate_other : IsOpenBut (patches_of heads) (Some gate) n → r ≡ true
  gate_other u = told ∙ rw (ne_eqb d.number gate (λ same. u.1 (sym own ∙ same)), said ∙ here_passes heads rising n s d index test.Open (open_passes (patches_of heads) n u.0)) refl
