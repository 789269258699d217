-- A gate among leveled patches that gains names is at the top already.
use Rattle.std.proofs.Common.{◌≡◌, ◌∷◌, [], ℕ, List, map, refl, sym, ap, subst, ◌∙◌, inl, inr, arith}
use Rattle.fst_types.specs.{Gates.IsOpenNumber, Gating.gains, Patches.{Patch, block_of_kind, grade_of_kind}}
use Rattle.fst_types.proofs.{GateGains.{direct_cases, gained}}
use Rattle.fst_heads.specs.{Grading.IsHardNumber, Indices.{PassesAt}}
use Rattle.fst_heads.proofs.{Covering.was_gained, Graded.{off_from, off_to}}
use Rattle.fst_levels.specs.Leveling.{AreLeveled, IsLeveled, Leveling, hard_over_of, jump_of, level_of, parent_of, floor_of}
use Rattle.fst_levels.proofs.{Leveled.{live_passes, passed_on}, AncestorsKept.{over_gained, under_gained}}
use Rattle.fst_heads.specs.declared.test.Test.TheVariants as test

numbers_gained : (g : ℕ) (names : List ℕ) (heads : List Patch) → map (λ p. p.number) (map (gains g names) heads) ≡ map (λ p. p.number) heads
numbers_gained g names [] = refl
numbers_gained g names (p ∷ ps) = rw ((gained g names p).0, numbers_gained g names ps) refl

-- an open gate gains names
module _ (old : List Patch) (g : ℕ) (names : List ℕ) (gate : IsOpenNumber old g) where
  abbrev new : List Patch
  new = map (gains g names) old

  change_was : (b n : ℕ) → PassesAt (test.LiveOn b) new n → PassesAt (test.LiveOn b) old n
  change_was b n x =
      let k = passed_on new b n x in
      let o = was_gained old g names x.patch x.head in
      subst (PassesAt (test.LiveOn b) old) (sym o.2.number ∙ x.numbered) (live_passes old b o.0 o.1 (λ e. k.1 (o.2.place ∙ e)) (sym (ap block_of_kind o.2.kind) ∙ k.2))

  pub hard_was : (b n : ℕ) → IsHardNumber new b n → IsHardNumber old b n
  hard_was b n h =
      let o = was_gained old g names h.patch h.head in
      record {
        patch = o.0;
        head = o.1;
        numbered = sym o.2.number ∙ h.numbered;
        hard = record { change = sym (ap block_of_kind o.2.kind) ∙ h.hard.change; memory = sym o.2.place ∙ h.hard.memory; hard = sym (ap grade_of_kind o.2.kind) ∙ h.hard.hard };
      }

  pub off_was : (b n : ℕ) → PassesAt (test.LiveOff b) new n → PassesAt (test.LiveOff b) old n
  off_was b n x =
      let k = off_from b x.patch.number x.patch.kind x.patch.place x.passed in
      let o = was_gained old g names x.patch x.head in
      record {
        patch = o.0;
        head = o.1;
        numbered = sym o.2.number ∙ x.numbered;
        passed = off_to b o.0.number k.1 o.0.kind o.0.place (λ e. k.0 (o.2.place ∙ e)) (sym (ap block_of_kind o.2.kind) ∙ k.2) k.3;
      }

  pub open_was : (n : ℕ) → IsOpenNumber new n → IsOpenNumber old n
  open_was n x = let o = was_gained old g names x.patch x.head in record { patch = o.0; head = o.1; numbered = sym o.2.number ∙ x.numbered; is_open = sym o.2.kind ∙ x.is_open }

  -- it is at the top, so nothing that it gains is higher
  pub gained_leveled : (level floor : ℕ → ℕ) → AreLeveled old level floor → AreLeveled (map (gains g names) old) level floor
  gained_leveled level floor L = record {
    direct = λ p q d. elim (direct_cases old g names p q d) [
      | inl o ↦ L.direct p q o
      | inr n ↦ let top = L.gates g gate in let few = L.few q in let e = ap level n.0 in omega (arith, top, few, e)
    ];
    change = λ b p x. L.change b p (change_was b p x);
    hard = λ b p h. L.hard b p (hard_was b p h);
    gates = λ p o. L.gates p (open_was p o);
    few = L.few;
  }

  -- the levels that are kept stay as they are
  pub gained_is_leveled : (blocks : ℕ) (levels : Leveling) → IsLeveled old blocks levels → IsLeveled (map (gains g names) old) blocks levels
  gained_is_leveled blocks levels x = record {
    aligned = x.aligned ∙ sym (numbers_gained g names old);
    long = x.long;
    leveled = gained_leveled (level_of levels.ranks) (floor_of levels.floors) x.leveled;
    parents = over_gained old g names (parent_of levels.ranks) x.parents;
    jumps = over_gained old g names (jump_of levels.ranks) x.jumps;
    overs = under_gained old g names (hard_over_of levels.ranks) x.overs;
  }
