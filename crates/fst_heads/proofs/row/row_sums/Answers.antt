use Rattle.fst_heads.proofs.{Basics.{◌∙◌, get_or, sym, ap, arith}, Words.{nodes_of, pending_in, plus}, PendingAt.{sums_more, count_more}}
use Rattle.fst_heads.proofs.row.row_sums.Goals as goal

pub add-requires-clause-room : goal.add-requires-clause-room
add-requires-clause-room c =
    let told = pending_in (nodes_of c.args.heads.now.list.items) in
    let row = c.args.row.now in
    let i = c.loop-number.number-index in
    let few = count_more told row i 0 c.loop-number-test.true in
    let same = ap (λ p. (plus p c.loop-number.sums).count) c.pending_at.ensures ∙ ap (λ s. (plus (told (get_or row i 0)) s).count) c.loop-number.invariant.0 in
    omega (arith, few, same, c.requires.room)

pub loop-number-preserved : goal.loop-number-preserved
loop-number-preserved c =
    let told = pending_in (nodes_of c.args.heads.now.list.items) in
    let row = c.args.row.now in
    let i = c.loop-number.number-index in (
      c.add.ensures.plus
          ∙ (ap (λ p. plus p c.loop-number.sums) c.pending_at.ensures ∙ (ap (plus (told (get_or row i 0))) c.loop-number.invariant.0 ∙ sym (sums_more told row i 0 c.loop-number-test.true))),
      c.add.ensures.fits,
    )
