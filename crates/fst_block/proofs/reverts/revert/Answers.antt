use Rattle.std.proofs.Common.{◌≡◌, ◌-◌, ◌+◌, ◌≤◌, suc, [], List, ℕ, length, get_or, refl, sym, ap, subst, ◌∙◌, arith, IfSome}
use Rattle.std.proofs.lemmas.Bool.{false≢true}
use Rattle.fst_chain.specs.Cursors.{cursor_list, cursor_place}
use Rattle.fst_chain.specs.Records.{payload_at}
use Rattle.fst_types.specs.Fold.{written}
use Rattle.fst_block.specs.BlockView.{BlockPatch}
use Rattle.fst_block.specs.Choices.{is_chosen}
use Rattle.fst_block.specs.Reverts.{Entry, reverted}
use Rattle.fst_block.proofs.Places.{place_before}
use Rattle.fst_block.proofs.Walks.{fits_last, before_chosen, before_left, same_walk, walk_done}
use Rattle.fst_block.proofs.reverts.revert.Goals as goal
use Rattle.fst_block.proofs.reverts.revert.Goals.{then-is_last, else-is_last}

pub put-requires : goal.put-requires
put-requires c =
    let es = cursor_list c.loop-to_meet.cursor in
    let k = cursor_place c.loop-to_meet.cursor in
    let place = c.loop-to_meet.invariant.2 (omega (arith, c.loop-to_meet-test.true)) in
    let walk = same_walk _ _ _ es _ (suc k) _ _ refl refl (omega (arith, place, c.loop-to_meet-test.true)) refl c.loop-to_meet.invariant.3 in
    let was = subst (λ r. IfSome r (λ x. x.now ≡ (get_or es k (x.now, [])).0)) c.unwrap-change.ensures c.current.ensures.value in
    let read = subst (λ (q : BlockPatch). q ≡ (get_or es k (q, [])).0) (sym c.change.view_is) was in
    let kept = subst (λ r. IfSome r (λ q. q.now ≡ payload_at es k)) c.unwrap.ensures c.payload.ensures.value in
    subst (λ (q : List ℕ). c.change.inside.span.at + length q ≤ length c.loop-to_meet.image) (sym kept) (fits_last _ _ _ es k _ walk _ read)

pub loop-to_meet-preserved : goal.loop-to_meet-preserved
loop-to_meet-preserved c =
    let es = cursor_list c.loop-to_meet.cursor in
    let k = cursor_place c.loop-to_meet.cursor in
    let place = c.loop-to_meet.invariant.2 (omega (arith, c.loop-to_meet-test.true)) in
    let walk = same_walk _ _ _ es _ (suc k) _ _ refl refl (omega (arith, place, c.loop-to_meet-test.true)) refl c.loop-to_meet.invariant.3 in
    let was = subst (λ r. IfSome r (λ x. x.now ≡ (get_or es k (x.now, [])).0)) c.unwrap-change.ensures c.current.ensures.value in
    let read = subst (λ (q : BlockPatch). q ≡ (get_or es k (q, [])).0) (sym c.change.view_is) was in (
      c.prev.ensures.same_reference ∙ c.loop-to_meet.invariant.0,
      c.prev.ensures.list ∙ c.loop-to_meet.invariant.1,
      λ more. place_before _ k _ c.prev.ensures.place (omega (arith, place, more)) ∙ (omega (arith, place)),
      elim c.if-is_last.branch [
        | then-is_last w ↦
            let named = w.if-is_last.ensures.0 refl in
            let less : c.loop-to_meet.to_meet ≡ suc (c.loop-to_meet.to_meet - 1) = omega (arith, named.0) in
            same_walk _ _ es _ k _ (c.loop-to_meet.to_meet - 1) _ (sym w.image-is) (sym c.prev.ensures.list) place (sym w.to_meet-is)
            (before_chosen _ _ _ es k _ walk _ read (c.loop-to_meet.to_meet - 1) less named.1)
        | else-is_last w ↦
            let kept = subst (λ r. IfSome r (λ q. q.now ≡ payload_at es k)) w.unwrap.ensures w.payload.ensures.value in
            let put_back = w.image-is ∙ (w.put.ensures ∙ ap (λ (q : List ℕ). written c.loop-to_meet.image (record { at = c.change.inside.span.at; bytes = q })) kept) in
            same_walk _ _ es _ k _ c.loop-to_meet.to_meet _ (sym put_back) (sym c.prev.ensures.list) place (sym w.to_meet-is)
            (before_left _ _ _ es k _ walk _ read (λ h e. false≢true (w.if-is_last.ensures.1 (h, e))))
      ],
    )

pub returns-clause-image : goal.returns-clause-image
returns-clause-image c =
    walk_done _ _ _ _ _ _ c.loop-to_meet.invariant.3 (omega (arith, c.loop-to_meet-test.false))
    ∙ ap (λ (es : List Entry). reverted (is_chosen c.args.chosen.now) c.args.image.now es) c.cursor_back-cursor.ensures.list
