use Rattle.fst_heads.proofs.{Basics.{◌∙◌, get_or, sym, ap}, Words.{nodes_of, pending_in, join}, PendingAt.joined_more}
use Rattle.fst_heads.proofs.row.row_pending.Goals as goal

pub loop-number-preserved : goal.loop-number-preserved
loop-number-preserved c =
    let told = pending_in (nodes_of c.args.heads.now.list.items) in
    let row = c.args.row.now in
    let i = c.loop-number.number-index in
    c.join-pending.ensures ∙ (ap (λ p. join p c.loop-number.pending) c.pending_at.ensures ∙ (ap (join (told (get_or row i 0))) c.loop-number.invariant ∙ sym (joined_more told row i 0 c.loop-number-test.true)))
