use Rattle.std.proofs.lemmas.Grind.{common_steps}
use Rattle.fst_heads.proofs.{Basics.{subst, List, ◌≡◌, ◌∙◌, ◌≤◌, ◌++◌, ◌∷◌, [], true, false, length, reverse, cond, ℕ, Result, Ok, Err, is_ok, if◌then◌else◌, false≢true, refl, sym, ap, arith, append-nil}, Words.{is_ready_on, nodes_of, numbers_of, ready_on}}
use Rattle.fst_heads.proofs.Patches.{PatchNo}
use Rattle.std.specs.Result.{is_err}
use Rattle.fst_heads.proofs.Passing.{passes_at, passing, passing_start, passing_within, rising_list, passing_skipped, passing_shorter, passing_front, passing_back, found_front, found_back, numbers_push, numbers_turned, ready_listed, all_found, found_some}
use Rattle.fst_heads.proofs.choice.ready_set.Goals.{else-loop-left-test, then-loop-left-test+in_default, then-is_ready_at+else-is_err, else-is_ready_at, then-from_back, else-from_back}
use Rattle.fst_heads.proofs.choice.ready_set.Goals as goal

pub list_in-rest-requires : goal.list_in-rest-requires
list_in-rest-requires c = rising_list c.args.block c.args.heads.now.list.items c.args.list.now c.args.heads.now.rising c.requires.listed

pub loop-left-init : goal.loop-left-init
loop-left-init c =
    let b = c.args.block in
    let heads = c.args.heads.now.list.items in
    let list = c.args.list.now in
    let rest = c.list_in-rest.result.now in
    let parts = c.list_in-rest.ensures in
    let whole = passing_within (is_ready_on b) heads c.args.standing.ready_in c.requires.lie list parts.0 rest parts.1 parts.2 parts.3 parts.4
    ∙ passing_start b (is_ready_on b) (ready_listed b) heads list c.args.heads.now.rising c.requires.listed in
    record {
      found = rw (c.new-front.ensures.items, c.new-back.ensures.items) (append-nil (passing (is_ready_on b) heads rest) ∙ whole);
      few = omega (arith, ap length whole, c.requires.ready);
    }

-- what is kept where memory was given
kept_ok : {X Y Z : Type 0} (r : Result X Y) (more old new : List Z) → new ≡ (if is_ok r then more else old) → is_err r ≡ false → new ≡ more
kept_ok (Ok x) more old new p e = p
kept_ok (Err y) more old new p e = absurd (false≢true (sym e))

pub loop-left-preserved : goal.loop-left-preserved
loop-left-preserved c =
    let b = c.args.block in
    let heads = c.args.heads.now.list.items in
    let ready = is_ready_on b in
    let rest = c.loop-left.rest.now in
    let others = c.in-Some.others.now in
    let l = c.in-Some.listed in
    let n = l.number in
    let ends = c.in-Some.ensures in
    let middle = passing ready heads others in
    let before = c.loop-left.invariant in
    let whole = ready_on b (nodes_of heads) in
    let front = c.loop-left.front.items in
    let back = c.loop-left.back.items in
    let no : PatchNo = record { 0 = n } in
    elim c.if-is_ready_at.branch [
      | then-is_ready_at+else-is_err v ↦
          let on : passes_at ready (nodes_of heads) n ≡ true = sym v.if-is_ready_at.ensures in
          let shorter = passing_shorter ready heads rest others l c.loop-left.from_back ends.front ends.back on in
          record {
            found = elim v.if-from_back.branch [
              | then-from_back u ↦
                  let next = passing_back ready heads rest others l (ends.back u.if-from_back.true) ∙ ap (λ k. middle ++ cond k (n ∷ []) []) on in
                  let pushed = kept_ok u.push-kept.result (back ++ no ∷ []) back u.push-kept.new.self.items u.push-kept.ensures.items (subst (λ r. is_err r ≡ false) u.kept-is (sym v.is_err.ensures.value ∙ v.if-is_err.false)) in
                  rw (v.front-is, v.back-is, u.front-is, u.back-is)
                  (subst (λ ns. numbers_of front ++ (middle ++ ns) ≡ whole) (sym (ap (λ ps. reverse (numbers_of ps)) pushed ∙ numbers_turned back no))
                  (found_back (numbers_of front) middle (reverse (numbers_of back)) whole n (subst (λ ns. numbers_of front ++ (ns ++ reverse (numbers_of back)) ≡ whole) next before.found)))
              | else-from_back u ↦
                  let next = passing_front ready heads rest others l (ends.front u.if-from_back.false) ∙ ap (λ k. cond k (n ∷ middle) middle) on in
                  let pushed = kept_ok u.push-kept-else-from_back.result (front ++ no ∷ []) front u.push-kept-else-from_back.new.self.items u.push-kept-else-from_back.ensures.items (subst (λ r. is_err r ≡ false) u.kept-is (sym v.is_err.ensures.value ∙ v.if-is_err.false)) in
                  rw (v.front-is, v.back-is, u.front-is, u.back-is)
                  (subst (λ ns. ns ++ (middle ++ reverse (numbers_of back)) ≡ whole) (sym (ap numbers_of pushed ∙ numbers_push front no))
                  (found_front (numbers_of front) middle (reverse (numbers_of back)) whole n (subst (λ ns. numbers_of front ++ (ns ++ reverse (numbers_of back)) ≡ whole) next before.found)))
            ];
            few = omega (arith, before.few, shorter, v.left-is);
          }
      | else-is_ready_at v ↦
          let off : passes_at ready (nodes_of heads) n ≡ false = sym v.if-is_ready_at.ensures in
          let same = passing_skipped ready heads rest others l c.loop-left.from_back ends.front ends.back off in
          rw (v.front-is, v.back-is) record { found = subst (λ ns. numbers_of front ++ (ns ++ reverse (numbers_of back)) ≡ whole) same before.found; few = omega (arith, before.few, ap length same, v.left-is) }
    ]

pub returns-in-Ok-clause-ok : goal.returns-in-Ok-clause-ok
returns-in-Ok-clause-ok c =
    let heads = c.args.heads.now.list.items in
    let ready = is_ready_on c.args.block in
    let left : List ℕ = passing ready heads c.loop-left.rest.now in
    let few : length left ≤ 0 = elim c.loop-left-test.branch [
      | else-loop-left-test w ↦ omega (arith, c.loop-left.invariant.few, w.loop-left-test.false)
      | then-loop-left-test+in_default w ↦ subst (λ list. length (passing ready heads list) ≤ 0) (sym w.in_default.ensures.none) (omega arith)
    ] in
    rw (c.in-Ok.ensures.items, c.reverse.ensures.items) (all_found c.loop-left.front.items c.loop-left.back.items left _ c.loop-left.invariant.found few)

pub returns-then-is_err-clause-refused : goal.returns-then-is_err-clause-refused
returns-then-is_err-clause-refused c =
    let ends = c.in-Some.ensures in
    let shorter = passing_shorter (is_ready_on c.args.block) c.args.heads.now.list.items c.loop-left.rest.now c.in-Some.others.now c.in-Some.listed c.loop-left.from_back ends.front ends.back (sym c.if-is_ready_at.ensures) in
    (found_some _ _ _ _ _ c.loop-left.invariant.found shorter, refl)

pub loop-left-smaller : goal.loop-left-smaller
loop-left-smaller c = grind (arith, common_steps)

pub returns-in-Err-clause-refused : goal.returns-in-Err-clause-refused
returns-in-Err-clause-refused c = grind (arith, common_steps)
