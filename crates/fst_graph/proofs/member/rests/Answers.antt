use Rattle.std.proofs.Common.{◌∙◌, eqb, ap, sym}
use Rattle.fst_heads.proofs.Indices.{direct_index, none_index}
use Rattle.fst_graph.proofs.MemberReady.{rests_at, waits_at}
use Rattle.fst_graph.proofs.member.rests.Goals as goal

pub returns-in-Some-clause-rests : goal.returns-in-Some-clause-rests
returns-in-Some-clause-rests c e = rests_at c.args.heads.now.list.items c.args.number c.in-Some.index c.index.result.now c.args.heads.now.rising c.requires.counted c.in-Some.ensures.found (sym (ap (λ h. eqb h.sums.count 0) c.index.ensures) ∙ e)

pub returns-in-Some-clause-waits : goal.returns-in-Some-clause-waits
returns-in-Some-clause-waits c e = waits_at c.args.heads.now.list.items c.args.number c.in-Some.index c.index.result.now c.args.heads.now.rising c.requires.counted c.in-Some.ensures.found (sym (ap (λ h. eqb h.sums.count 0) c.index.ensures) ∙ e)

pub returns-in-None-clause-rests : goal.returns-in-None-clause-rests
returns-in-None-clause-rests c e q direct =
    let heads = c.args.heads.now.list.items in
    let s = direct_index heads c.args.number q direct in
    absurd (none_index heads c.args.number s.0 c.in-None.ensures.none s.1)
