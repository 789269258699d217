use Rattle.fst_heads.proofs.{Basics.ap, Words.node_of, Flagged.{flagged_index, goes}}
use Rattle.fst_heads.proofs.forgotten.flag_at.Goals as goal

pub returns-clause-nodes : goal.returns-clause-nodes
returns-clause-nodes c = flagged_index c.args.heads.now.list.items c.args.number c.args.index _ c.index_mut.result.now c.args.heads.now.rising c.requires.index (ap (λ h. goes (node_of h)) c.index_mut.ensures.value)
