use Rattle.std.proofs.Common.{◌≡◌, suc, List, [], length, get_or, refl, sym, ap, subst, ◌∙◌, arith, add-one, IfSome}
use Rattle.std.proofs.lemmas.Bool.{false≢true}
use Rattle.fst_chain.specs.{Cursors.{cursor_list, cursor_place}, Records.chain_list}
use Rattle.fst_types.specs.Fold.{written}
use Rattle.fst_block.specs.BlockView.{BlockPatch, write_of, fold_of, soft_lengths}
use Rattle.fst_block.specs.Choices.{chosen_of}
use Rattle.fst_block.specs.Reverts.{Entry, patches_of, entries_left}
use Rattle.fst_block.proofs.Takes.{with_one_out, past_one, more_to_come, takes_done, counts_within, same_takes, length-without, soft_lengths-chosen}
use Rattle.fst_block.proofs.launched.take_out.Goals as goal

pub unwrap-change-requires : goal.unwrap-change-requires
unwrap-change-requires c =
    c.current.ensures.variant.1 (more_to_come _ _ _ _ _ _ _ _ _ c.loop-met.invariant.2 (omega (arith, c.loop-met-test.true)))

pub overflow_add-undo : goal.overflow_add-undo
overflow_add-undo c =
    let es = cursor_list c.loop-met.cursor in
    let k = cursor_place c.loop-met.cursor in
    let was = subst (λ r. IfSome r (λ x. x.now ≡ (get_or es k (x.now, [])).0)) c.unwrap-change.ensures c.current.ensures.value in
    let read = subst (λ (q : BlockPatch). q ≡ (get_or es k (q, [])).0) (sym c.change.view_is) was in
    let here = more_to_come _ _ _ _ _ _ _ _ _ c.loop-met.invariant.2 (omega (arith, c.loop-met-test.true)) in
    let within = counts_within _ _ _ _ _ es k _ _ c.loop-met.invariant.2 _ here read (c.if-is_at.ensures.named.0 refl) in
    let all = soft_lengths-chosen c.args.chosen.now (patches_of (cursor_list c.cursor_front-cursor.result)) in
    omega (arith, within, all, c.loop-met.invariant.1, c.kept_len.ensures.value, c.from-undo.ensures)

pub loop-met-smaller-then-is_at : goal.loop-met-smaller-then-is_at
loop-met-smaller-then-is_at c =
    let here = more_to_come _ _ _ _ _ _ _ _ _ c.loop-met.invariant.2 (omega (arith, c.loop-met-test.true)) in
    omega (arith, here, ap length c.remove.ensures.list, c.remove.ensures.place, length-without (cursor_list c.loop-met.cursor) (cursor_place c.loop-met.cursor) here)

pub loop-met-preserved-then-is_at : goal.loop-met-preserved-then-is_at
loop-met-preserved-then-is_at c =
    let es = cursor_list c.loop-met.cursor in
    let k = cursor_place c.loop-met.cursor in
    let was = subst (λ r. IfSome r (λ x. x.now ≡ (get_or es k (x.now, [])).0)) c.unwrap-change.ensures c.current.ensures.value in
    let read = subst (λ (q : BlockPatch). q ≡ (get_or es k (q, [])).0) (sym c.change.view_is) was in
    let here = more_to_come _ _ _ _ _ _ _ _ _ c.loop-met.invariant.2 (omega (arith, c.loop-met-test.true)) in (
      c.remove.ensures.same_reference ∙ c.loop-met.invariant.0,
      c.loop-met.invariant.1,
      same_takes _ _ _ _ k _ (suc c.loop-met.met) _ _ _ (ap (λ (q : BlockPatch). written c.loop-met.base.items (write_of q)) c.change.view_is ∙ sym c.of.ensures) (sym c.remove.ensures.list) (sym c.remove.ensures.place) (sym (add-one c.loop-met.met)) (omega (arith, c.kept_len.ensures.value, c.from-undo.ensures))
          (with_one_out _ _ _ _ _ es k _ _ c.loop-met.invariant.2 _ here read (c.if-is_at.ensures.named.0 refl)),
    )

pub loop-met-smaller : goal.loop-met-smaller
loop-met-smaller c =
    let here = more_to_come _ _ _ _ _ _ _ _ _ c.loop-met.invariant.2 (omega (arith, c.loop-met-test.true)) in
    omega (arith, here, ap length c.next.ensures.list, c.next.ensures.place)

pub loop-met-preserved : goal.loop-met-preserved
loop-met-preserved c =
    let es = cursor_list c.loop-met.cursor in
    let k = cursor_place c.loop-met.cursor in
    let was = subst (λ r. IfSome r (λ x. x.now ≡ (get_or es k (x.now, [])).0)) c.unwrap-change.ensures c.current.ensures.value in
    let read = subst (λ (q : BlockPatch). q ≡ (get_or es k (q, [])).0) (sym c.change.view_is) was in
    let here = more_to_come _ _ _ _ _ _ _ _ _ c.loop-met.invariant.2 (omega (arith, c.loop-met-test.true)) in
    let place : suc k ≡ cursor_place c.next.new.self = omega (arith, here, c.next.ensures.place) in (
      c.next.ensures.same_reference ∙ c.loop-met.invariant.0,
      c.loop-met.invariant.1,
      same_takes _ _ _ _ (suc k) _ _ _ _ _ refl (sym c.next.ensures.list) place refl refl
          (past_one _ _ _ _ _ es k _ _ c.loop-met.invariant.2 _ here read (λ named. false≢true (c.if-is_at.ensures.named.1 named))),
    )

pub returns-clause-patches : goal.returns-clause-patches
returns-clause-patches c =
    ap chain_list (c.patches-1.given.1 (sym (c.loop-met.invariant.0 ∙ c.cursor_front-cursor.ensures.same_reference)))
    ∙ ((takes_done _ _ _ _ _ _ _ _ _ c.loop-met.invariant.2 (omega (arith, c.loop-met-test.false))).0
    ∙ ap (entries_left c.args.chosen.now) c.cursor_front-cursor.ensures.list)

pub returns-clause-base : goal.returns-clause-base
returns-clause-base c =
    (takes_done _ _ _ _ _ _ _ _ _ c.loop-met.invariant.2 (omega (arith, c.loop-met-test.false))).1
    ∙ ap (λ (es : List Entry). fold_of c.args.base.now.items (chosen_of c.args.chosen.now (patches_of es))) c.cursor_front-cursor.ensures.list

pub returns-clause-undo : goal.returns-clause-undo
returns-clause-undo c =
    (takes_done _ _ _ _ _ _ _ _ _ c.loop-met.invariant.2 (omega (arith, c.loop-met-test.false))).2
    ∙ ap (λ (es : List Entry). soft_lengths (chosen_of c.args.chosen.now (patches_of es))) c.cursor_front-cursor.ensures.list
