use Rattle.std.proofs.lemmas.Grind.{common_steps}
use Rattle.std.proofs.Common.{◌≡◌, ◌≤◌, ◌+◌, ◌++◌, ◌∷◌, ◌∙◌, [], List, ℕ, zero, suc, set, take, drop, length, refl, ap, arith}
use native.Mathlib.Numerals.{unary_clauses}
use Rattle.fst_heads.proofs.Words.{Run}
use Rattle.fst_heads.proofs.cover.lay.Goals as goal

-- two stand in the place of two, without those that followed up to past
set_two : (runs : List Run) (i past : ℕ) (own end : Run) → suc (suc i) ≤ past → past ≤ length runs
    → take (suc (suc i)) (set (set runs i own) (suc i) end) ++ drop past (set (set runs i own) (suc i) end) ≡ take i runs ++ own ∷ end ∷ drop past runs
set_two [] i past own end two few = absurd (omega (arith, two, few))
set_two (r ∷ rs) i zero own end two few = absurd (omega (arith, two))
set_two (r ∷ rs) zero (suc zero) own end two few = absurd (omega (arith, two))
set_two (r ∷ []) zero (suc (suc past)) own end two few = absurd (omega (arith, few))
set_two (r ∷ s ∷ rs) zero (suc (suc past)) own end two few = refl
set_two (r ∷ rs) (suc i) (suc past) own end two few = ap (λ xs. r ∷ xs) (set_two rs i past own end (omega (arith, two)) (omega (arith, few)))

two_set : (runs : List Run) (i past left : ℕ) (own end : Run) → i + 2 ≤ left → left ≤ i + 2 → left ≤ past → past ≤ length runs
    → take left (set (set runs i own) (i + 1) end) ++ drop past (set (set runs i own) (i + 1) end) ≡ take i runs ++ own ∷ end ∷ drop past runs
two_set runs i past left own end two most within few =
    let same : left ≡ suc (suc i) = omega (arith, two, most) in
    rw same (simp unary_clauses (set_two runs i past own end (omega (arith, two, within)) few))

pub returns-after-loop-surplus : goal.returns-after-loop-surplus
returns-after-loop-surplus c =
    c.loop-surplus.invariant.items
    ∙ two_set c.args.runs.now.items c.args.first c.args.past c.loop-surplus.surplus c.args.own c.args.end c.loop-surplus.invariant.behind c.loop-surplus-test.false c.loop-surplus.auto.surplus c.requires.within

pub loop-surplus-init : goal.loop-surplus-init
loop-surplus-init c = grind (arith, common_steps)

pub remove-requires : goal.remove-requires
remove-requires c = grind (arith, common_steps)

pub loop-surplus-preserved : goal.loop-surplus-preserved
loop-surplus-preserved c = grind (arith, common_steps)

pub returns-in-1 : goal.returns-in-1
returns-in-1 c = grind (arith, common_steps)
