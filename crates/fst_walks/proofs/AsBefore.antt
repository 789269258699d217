-- A change after nothing but what a hard change of its block in memory is after is hard as that, and from one after all that a change is after from which a way leads back a way leads back too. Of another block any change stands for a hard one in memory.
use Rattle.std.proofs.Common.{◌∷◌, [], ℕ, List, Contains, refl, subst, sym, inl, inr}
use Rattle.std.proofs.lemmas.List.Elements.{Contains-push}
use Rattle.fst_types.specs.{Closure.{Closure, one, join}, Dependencies.{DependsOn, DirectlyOn}, Facts.{HardNeverHold, IsOnDiskWithAll}, Patches.Patch}
use Rattle.fst_types.proofs.SmallStates.{only_in}
use Rattle.fst_heads.specs.{Grading.{IsHardNumber, IsLeading, IsReturning, LeadsNowhere}, Heads.{IsRising, patches_of}, Indices.IsAbove, declared.head.Head.Head}
use Rattle.fst_heads.proofs.{Graded.{off_to, on_from}, Listing.rising_patches}
use Rattle.fst_levels.specs.WayBack.{LeadsBack, StepsBack}
use Rattle.fst_walks.specs.Telling.{IsWithin}
use Rattle.fst_levels.proofs.{NoWayBack.{back_leads, goes_up, none_leads, off_live}, NearRow.rests_may}

-- from what a patch directly depends on no way leads back where none does from the patch
below_nowhere : (patches : List Patch) (b n : ℕ) (below : List ℕ) → ((q : ℕ) → Contains below q → DirectlyOn patches n q) → LeadsNowhere patches b (n ∷ []) → LeadsNowhere patches b below
below_nowhere patches b n below direct L = record {
  straight = λ u. L.straight (n, Contains-push [] n, up (IsReturning patches b) u.0 (direct u.0 u.1) u.2);
  open_ended = λ u. L.open_ended (n, Contains-push [] n, up (IsLeading patches b) u.0 (direct u.0 u.1) u.2);
}
  where
    up : (P : ℕ → Type 0) (q : ℕ) → DirectlyOn patches n q → IsAbove patches P q → IsAbove patches P n
    up P q d a = elim a [ inl here ↦ inr (q, one d, here) | inr r ↦ inr (r.0, join (one d) r.1, r.2) ]

module _ (heads : List Head) (rising : IsRising heads) (hard : HardNeverHold (patches_of heads)) (b : ℕ) where
  abbrev patches : List Patch
  patches = patches_of heads

  hard_nowhere : (q : ℕ) → IsHardNumber patches b q → LeadsNowhere patches b (q ∷ [])
  hard_nowhere q h = let may = rests_may heads rising b (q ∷ []) hard (λ n c. subst (IsHardNumber patches b) (only_in q n c) h) in record { straight = may.straight; open_ended = may.open_ended }

  -- what leads back from all of the other row leads back from this
  pub back_as : IsOnDiskWithAll patches → (row other : List ℕ) (end : ℕ) → ((q : ℕ) → Contains other q → IsWithin patches b row q) → LeadsBack patches b other end → LeadsBack patches b row end
  back_as disk row other end within l =
      let u = l.under in
      elim (within u.0 u.1) [
        | inl named ↦ record { away = l.away; change = l.change; off = l.off; under = (u.0, named, u.2); path = l.path }
        | inr (inl own) ↦ absurd (back_leads patches (rising_patches heads rising) disk b (u.0 ∷ []) end (record { away = l.away; change = l.change; off = l.off; under = (u.0, Contains-push [] u.0, u.2); path = l.path }) (hard_nowhere u.0 own))
        | inr (inr beside) ↦
            let live = off_live patches (rising_patches heads rising) disk b l.away l.off in
            let path : Closure (StepsBack patches b) end u.0 = elim u.2 [
              | inl here ↦ subst (Closure (StepsBack patches b) end) (sym here) l.path
              | inr low ↦ join l.path (goes_up patches disk b u.0 l.away (subst (DependsOn patches u.0) low.2 low.1) live)
            ] in
            let x = beside.2 in
            let q = x.change in
            record {
              away = beside.0;
              change = l.change;
              off = record { patch = q.patch; head = q.head; numbered = q.numbered; passed = off_to b q.patch.number x.block q.patch.kind q.patch.place (on_from x.block q.patch.number q.patch.kind q.patch.place q.passed).0 (on_from x.block q.patch.number q.patch.kind q.patch.place q.passed).1 x.other };
              under = (beside.0, beside.1, inl refl);
              path = join path (one (inr x));
            }
      ]

  -- as the hard change h is
  pub hard_as : IsOnDiskWithAll patches → (h : ℕ) (row other : List ℕ) → IsHardNumber patches b h → ((q : ℕ) → Contains other q → DirectlyOn patches h q) → ((q : ℕ) → Contains row q → IsWithin patches b other q) → LeadsNowhere patches b row
  hard_as disk h row other is below within =
      let nowhere = below_nowhere patches b h other below (hard_nowhere h is) in
      none_leads patches (rising_patches heads rising) disk b row (λ end l. back_leads patches (rising_patches heads rising) disk b other end (back_as disk other row end within l) nowhere)
