use Rattle.std.proofs.Common.{◌∙◌, ap, sym}
use Rattle.fst_heads.proofs.PendingAt.{pending_index, pending_none}
use Rattle.fst_levels.proofs.shortcuts.pending_of.Goals as goal

pub returns-in-Some : goal.returns-in-Some
returns-in-Some c = ap (λ h. h.pending) c.index.ensures ∙ sym (pending_index c.args.sight.now.heads.now.list.items c.args.number c.in-Some.index c.index.result.now c.args.sight.now.heads.now.rising c.in-Some.ensures.found)

pub returns-in-None : goal.returns-in-None
returns-in-None c = sym (pending_none c.args.sight.now.heads.now.list.items c.args.number c.in-None.ensures.none)
