use Rattle.fst_heads.proofs.{Basics.{◌≤◌, ◌<◌, All-weaker, ◌∙◌, ◌∷◌, ◌++◌, [], length, cond, refl, sym, ap, subst, arith, append-nil, append_assoc, length-append}, Words.{is_held_on}}
use Rattle.fst_heads.proofs.Passing.{passing, passing_before, passing_least, passing_start, rising_list, passing_skipped, passing_front, passing_back, held_listed, first_found}
use Rattle.fst_heads.proofs.choice.first_held.Goals as goal
use Rattle.fst_heads.proofs.choice.first_held.Goals.{then-is_held_at-2+else-not-from_back, else-is_held_at-2}

pub returns-then-is_held_at-clause-least : goal.returns-then-is_held_at-clause-least
returns-then-is_held_at-clause-least c =
    passing_least (is_held_on c.args.block) c.args.heads.now.list.items c.args.standing.held_from c.args.heads.now.rising c.requires.above (sym c.is_held_at.ensures ∙ c.if-is_held_at.true)

pub list_from-rest-requires : goal.list_from-rest-requires
list_from-rest-requires c = rising_list c.args.block c.args.heads.now.list.items c.args.list.now c.args.heads.now.rising c.requires.listed

pub loop-left-init : goal.loop-left-init
loop-left-init c =
    let b = c.args.block in
    let heads = c.args.heads.now.list.items in
    let list = c.args.list.now in
    let rest = c.list_from-rest.result.now in
    let parts = c.list_from-rest.ensures in
    let left_out = passing_before (is_held_on b) heads (λ n. c.args.standing.held_from ≤ n) c.requires.above parts.0 rest (All-weaker (λ l. l.number < c.args.standing.held_from) (λ l. c.args.standing.held_from ≤ l.number → ⊥) (λ l lt le. omega (arith, lt, le)) parts.0 parts.2) in
    let whole = sym left_out ∙ (ap (passing (is_held_on b) heads) (sym parts.1) ∙ passing_start b (is_held_on b) (held_listed b) heads list c.args.heads.now.rising c.requires.listed) in
    record { found = ([], append-nil (passing (is_held_on b) heads rest) ∙ whole, refl); few = omega (arith, ap length whole, c.requires.held) }

pub returns-then-not-from_back-clause-least : goal.returns-then-not-from_back-clause-least
returns-then-not-from_back-clause-least c =
    let heads = c.args.heads.now.list.items in
    let held = is_held_on c.args.block in
    let n = c.in-Some.listed.number in
    let others = passing held heads c.in-Some.others.now in
    let later = c.loop-left.invariant.found.0 in
    let next = passing_front held heads c.loop-left.rest.now c.in-Some.others.now c.in-Some.listed (c.in-Some.ensures.front c.if-not-from_back.true) in
    (others ++ later, sym c.loop-left.invariant.found.1 ∙ ap (λ ns. ns ++ later) (next ∙ ap (λ t. cond t (n ∷ others) others) (sym c.if-is_held_at-2.ensures)))

pub loop-left-preserved : goal.loop-left-preserved
loop-left-preserved c =
    let heads = c.args.heads.now.list.items in
    let held = is_held_on c.args.block in
    let rest = c.loop-left.rest.now in
    let n = c.in-Some.listed.number in
    let ends = c.in-Some.ensures in
    let others = passing held heads c.in-Some.others.now in
    let before = c.loop-left.invariant in
    let later = before.found.0 in
    elim c.if-is_held_at-2.branch [
      | then-is_held_at-2+else-not-from_back w ↦
          let more = passing_back held heads rest c.in-Some.others.now c.in-Some.listed (ends.back w.if-not-from_back.false) ∙ ap (λ t. others ++ cond t (n ∷ []) []) (sym w.if-is_held_at-2.ensures) in
          rw w.least-is record {
            found = (n ∷ later, sym (append_assoc others (n ∷ []) later) ∙ (ap (λ ns. ns ++ later) (sym more) ∙ before.found.1), (later, refl));
            few = omega (arith, ap length more, length-append others (n ∷ []), before.few, w.left-is);
          }
      | else-is_held_at-2 w ↦
          let same = passing_skipped held heads rest c.in-Some.others.now c.in-Some.listed c.loop-left.from_back ends.front ends.back (sym w.if-is_held_at-2.ensures) in
          rw w.least-is record { found = (later, ap (λ ns. ns ++ later) (sym same) ∙ before.found.1, before.found.2); few = omega (arith, ap length same, before.few, w.left-is) }
    ]

pub returns-after-loop-left-clause-none : goal.returns-after-loop-left-clause-none
returns-after-loop-left-clause-none c = (first_found c.loop-left.least _ _ c.loop-left.invariant.found (omega (arith, c.loop-left.invariant.few, c.loop-left-test.false))).0

pub returns-after-loop-left-clause-least : goal.returns-after-loop-left-clause-least
returns-after-loop-left-clause-least c = (first_found c.loop-left.least _ _ c.loop-left.invariant.found (omega (arith, c.loop-left.invariant.few, c.loop-left-test.false))).1

-- nothing is left of the list
none_left : (c : goal.In_default) → length (passing (is_held_on c.args.block) c.args.heads.now.list.items c.loop-left.rest.now) ≤ 0
none_left c = subst (λ list. length (passing (is_held_on c.args.block) c.args.heads.now.list.items list) ≤ 0) (sym c.in_default.ensures.none) (omega arith)

pub returns-in_default-clause-none : goal.returns-in_default-clause-none
returns-in_default-clause-none c = (first_found c.loop-left.least _ _ c.loop-left.invariant.found (none_left c)).0

pub returns-in_default-clause-least : goal.returns-in_default-clause-least
returns-in_default-clause-least c = (first_found c.loop-left.least _ _ c.loop-left.invariant.found (none_left c)).1
