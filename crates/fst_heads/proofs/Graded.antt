-- What the walks over a row show, and the grade that follows.
use Rattle.std.proofs.lemmas.Option.{same_Some}
use Rattle.fst_heads.proofs.Basics.{◌≡◌, ◌≢◌, ℕ, ◌+◌, ◌≤◌, eqb, true, List, [], ◌∷◌, ◌++◌, Contains, Some, None, refl, sym, ap, subst, ◌∙◌, inl, inr, arith, eqb-true, eqb-false, eq-eqb, ne_eqb, false≢true, not-true, Contains-append_left, Contains-push, Contains-push_cases, and_parts, rules}
use Rattle.fst_heads.proofs.Patches.{Place, Grade, Kind, Change, OpenGate, Patch, block_of_kind, DirectlyOn, DependsOn, IsOpenNumber, IsGradedHard, FollowsRule, fresh, first_step, IsWithin, old_head, target_small, depends_old, needs_old}
use Rattle.fst_heads.proofs.{Words.{PassesAt, kind_passes, HasUnder, IsReturning, IsLeading, MayBeHard}, Indices.{live_place, place_live}}
use Rattle.fst_types.specs.Closure.{one, join}
use Rattle.fst_heads.proofs.Patches.place
use Rattle.fst_heads.specs.declared.test.Test.TheVariants as test

-- open gates
open_from : (n : ℕ) (k : Kind) (p : Place) → kind_passes test.Open n k p ≡ true → k ≡ OpenGate
open_from n OpenGate p e = refl
open_from n k p e = absurd (false≢true e)

open_to : (n : ℕ) (k : Kind) (p : Place) → k ≡ OpenGate → kind_passes test.Open n k p ≡ true
open_to n OpenGate p e = refl
open_to n k p e = cc

pub passes_open : (patches : List Patch) (n : ℕ) → PassesAt test.Open patches n → IsOpenNumber patches n
passes_open patches n p = record { patch = p.patch; head = p.head; numbered = p.numbered; is_open = open_from p.patch.number p.patch.kind p.patch.place p.passed }

pub open_passes : (patches : List Patch) (n : ℕ) → IsOpenNumber patches n → PassesAt test.Open patches n
open_passes patches n o = record { patch = o.patch; head = o.head; numbered = o.numbered; passed = open_to o.patch.number o.patch.kind o.patch.place o.is_open }

pub on_from : (b n : ℕ) (k : Kind) (p : Place) → kind_passes (test.LiveOn b) n k p ≡ true → (p ≡ place.Disk → ⊥) × (block_of_kind k ≡ Some b)
on_from b n (Change on at len grade) p e = let k = and_parts _ _ e in (live_place p k.0, ap Some (eqb-true on b k.1))
on_from b n k p e = absurd (false≢true e)

pub on_to : (b n : ℕ) (k : Kind) (p : Place) → (p ≡ place.Disk → ⊥) → block_of_kind k ≡ Some b → kind_passes (test.LiveOn b) n k p ≡ true
on_to b n (Change on at len grade) p live e = rw (place_live p live, eq-eqb on b (same_Some on b e)) refl
on_to b n k p live e = cc

pub off_from : (b n : ℕ) (k : Kind) (p : Place) → kind_passes (test.LiveOff b) n k p ≡ true → (p ≡ place.Disk → ⊥) × (c : ℕ) × (block_of_kind k ≡ Some c) × (c ≢ b)
off_from b n (Change on at len grade) p e = let k = and_parts _ _ e in (live_place p k.0, on, refl, eqb-false on b (not-true (eqb on b) k.1))
off_from b n k p e = absurd (false≢true e)

pub off_to : (b n c : ℕ) (k : Kind) (p : Place) → (p ≡ place.Disk → ⊥) → block_of_kind k ≡ Some c → c ≢ b → kind_passes (test.LiveOff b) n k p ≡ true
off_to b n c (Change on at len grade) p live e other = rw (place_live p live, ne_eqb on b (λ s. other (sym (same_Some on c e) ∙ s))) refl
off_to b n c k p live e other = cc

-- what a new change depends on is under its row
module _ (heads : List Patch) (numbers : ℕ) (within : IsWithin heads numbers) (b at len : ℕ) (g : Grade) (row : List ℕ) (named : (q : ℕ) → Contains row q → q ≤ numbers) where
  abbrev new_change : Patch
  new_change = fresh (numbers + 1) (Change b at len g) row

  abbrev after : List Patch
  after = heads ++ new_change ∷ []

  direct_row : (y : ℕ) → DirectlyOn after (numbers + 1) y → Contains row y
  direct_row y d = elim (Contains-push_cases heads new_change d.patch d.head) [
    | inl o ↦ let k = (within d.patch o).0 in absurd (omega (arith, k, d.numbered))
    | inr e ↦ subst (λ p. Contains p.dependencies y) (sym e) d.named
  ]

  row_direct : (y : ℕ) → Contains row y → DependsOn after (numbers + 1) y
  row_direct y c = one (record { patch = new_change; head = Contains-push heads new_change; numbered = refl; named = c })

  still : (x y : ℕ) → DependsOn heads x y → DependsOn after x y
  still x y (one d) = one (record { patch = d.patch; head = Contains-append_left heads (new_change ∷ []) d.patch d.head; numbered = d.numbered; named = d.named })
  still x y (join {q = q} c d) = join (still x q c) (still q y d)

  small : (q : ℕ) → DependsOn after (numbers + 1) q → q ≤ numbers
  small q d = target_small heads numbers within new_change refl named (numbers + 1) q d

  old : (q : Patch) → Contains after q → DependsOn after (numbers + 1) q.number → Contains heads q
  old q h d = old_head heads numbers within new_change refl named q h (small q.number d)

  pub depends_under : (P : ℕ → Type 0) (q : ℕ) → P q → DependsOn after (numbers + 1) q → HasUnder heads row P
  depends_under P q has d =
      let f = first_step (numbers + 1) q d in
      let c = direct_row f.0 f.1 in (
        f.0,
        c,
        elim f.2 [
          | inl e ↦ inl (subst P (sym e) has)
          | inr r ↦ inr (q, depends_old heads numbers within new_change refl named f.0 q r (named f.0 c), has)
        ],
      )

  under_depends : (P : ℕ → Type 0) → HasUnder heads row P → (q : ℕ) × P q × DependsOn after (numbers + 1) q
  under_depends P u = elim u.2 [
    | inl has ↦ (u.0, has, row_direct u.0 u.1)
    | inr r ↦ (r.0, r.2, join (row_direct u.0 u.1) (still u.0 r.0 r.1))
  ]

  pub may_graded : MayBeHard heads None b row → IsGradedHard heads after b (numbers + 1)
  may_graded m = record {
    free = λ k. m.free (depends_under (IsOpenNumber heads) k.gate.number (record { patch = k.gate; head = old k.gate k.head k.depends; numbered = refl; is_open = k.is_open }) k.depends);
    straight = λ r.
        let head = old r.away r.away_needed.head r.away_needed.depends in
        let back = needs_old heads numbers within new_change refl named r.away.number r.back b r.back_needed (small r.away.number r.away_needed.depends) in
        m.straight (depends_under (IsReturning heads b) r.away.number (search rules) r.away_needed.depends);
    open_ended = λ q c need live other path.
        let head = old q need.head need.depends in
        m.open_ended (depends_under (IsLeading heads b) q.number (search rules) need.depends);
  }

  graded_may : IsGradedHard heads after b (numbers + 1) → MayBeHard heads None b row
  graded_may k = record {
    free = λ u.
        let d = under_depends (IsOpenNumber heads) u in
        k.free (record { gate = d.1.patch; head = Contains-append_left heads (new_change ∷ []) d.1.patch d.1.head; is_open = d.1.is_open; depends = subst (DependsOn after (numbers + 1)) (sym d.1.numbered) d.2 });
    straight = λ u.
        let d = under_depends (IsReturning heads b) u in
        let r = d.1 in
        let away = Contains-append_left heads (new_change ∷ []) r.away r.head in
        let back = Contains-append_left heads (new_change ∷ []) r.back r.back_needed.head in
        let depends = subst (DependsOn after (numbers + 1)) (sym r.numbered) d.2 in
        let under = still r.away.number r.back.number r.back_needed.depends in
        k.straight (search rules);
    open_ended = λ u.
        let d = under_depends (IsLeading heads b) u in
        let l = d.1 in
        k.open_ended l.patch l.block (record { head = Contains-append_left heads (new_change ∷ []) l.patch l.head; change = l.change; depends = subst (DependsOn after (numbers + 1)) (sym l.numbered) d.2 }) l.live l.other l.reaches;
  }

  -- so the grade by the row is the grade of the new change
  pub graded_rule : FollowsRule g (MayBeHard heads None b row) → FollowsRule g (IsGradedHard heads after b (numbers + 1))
  graded_rule rule = grind (arith, may_graded, graded_may)
