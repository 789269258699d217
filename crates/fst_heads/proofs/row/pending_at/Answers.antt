use Rattle.fst_heads.proofs.{Basics.{◌∙◌, ap, sym}, PendingAt.{pending_index, pending_none}}
use Rattle.fst_heads.proofs.row.pending_at.Goals as goal

pub returns-in-Some : goal.returns-in-Some
returns-in-Some c = ap (λ h. h.pending) c.index.ensures ∙ sym (pending_index c.args.heads.now.list.items c.args.number c.in-Some.index c.index.result.now c.args.heads.now.rising c.in-Some.ensures.found)

pub returns-in-None : goal.returns-in-None
returns-in-None c = sym (pending_none c.args.heads.now.list.items c.args.number c.in-None.ensures.none)
