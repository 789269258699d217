use Rattle.fst_heads.proofs.{Basics.{◌∙◌, not, sym, ap, subst, arith}, Words.{frame_of, Node, node_of, Fits, is_recorded, seals}, AtNumber.at_index}
use Rattle.fst_heads.proofs.{Framed.{frames_set, rising_framed}, PendingAt.node_in, Indexed.{rested_sums, stays_index, waits_index}}
use Rattle.fst_heads.specs.declared.head.Kind.TheVariants as kinds
use Rattle.fst_heads.proofs.cascade.seal_at.Goals as goal

pub is_recorded-requires : goal.is_recorded-requires
is_recorded-requires c =
    let head = c.index_mut-head.result.now in
    subst Fits (sym (ap (λ (x : Node). x.sums) c.rest.ensures.node ∙ rested_sums (node_of (record head { kind = kinds.SealedGate })))) (c.requires.fits (node_of head) (node_in c.args.heads.now.list.items c.args.index head c.requires.index.0 c.index_mut-head.ensures.value))

pub invariant_of-heads : goal.invariant_of-heads
invariant_of-heads c =
    let heads = c.args.heads.now.list.items in
    record { rising = rising_framed _ heads (frames_set heads c.args.index c.rest.new.head c.index_mut-head.result.now c.requires.index.0 (c.rest.ensures.frame ∙ ap frame_of c.index_mut-head.ensures.value)) c.args.heads.now.rising }

pub returns-then-not-is_recorded-clause-nodes : goal.returns-then-not-is_recorded-clause-nodes
returns-then-not-is_recorded-clause-nodes c = grind (arith, at_index)

pub returns-then-not-is_recorded-clause-queued : goal.returns-then-not-is_recorded-clause-queued
returns-then-not-is_recorded-clause-queued c =
    c.push_reserved.ensures.items
    ∙ waits_index c.args.heads.now.list.items c.args.gate c.args.index (λ x. not (is_recorded (seals x))) c.index_mut-head.result.now c.args.queue.now.items c.args.heads.now.rising c.requires.index
    (sym (ap (λ h. not (is_recorded (seals (node_of h)))) c.index_mut-head.ensures.value) ∙ (ap (λ x. not (is_recorded x)) (sym c.rest.ensures.node) ∙ (ap not (sym c.is_recorded.ensures) ∙ ap not c.if-not-is_recorded.true)))

pub returns-else-not-is_recorded-clause-nodes : goal.returns-else-not-is_recorded-clause-nodes
returns-else-not-is_recorded-clause-nodes c = grind (arith, at_index)

pub returns-else-not-is_recorded-clause-queued : goal.returns-else-not-is_recorded-clause-queued
returns-else-not-is_recorded-clause-queued c =
    stays_index c.args.heads.now.list.items c.args.gate c.args.index (λ x. not (is_recorded (seals x))) c.index_mut-head.result.now c.args.queue.now.items c.args.heads.now.rising c.requires.index
    (sym (ap (λ h. not (is_recorded (seals (node_of h)))) c.index_mut-head.ensures.value) ∙ (ap (λ x. not (is_recorded x)) (sym c.rest.ensures.node) ∙ (ap not (sym c.is_recorded.ensures) ∙ ap not c.if-not-is_recorded.false)))

pub returns-then-not-is_recorded-clause-frames : goal.returns-then-not-is_recorded-clause-frames
returns-then-not-is_recorded-clause-frames c = frames_set c.args.heads.now.list.items c.args.index _ c.index_mut-head.result.now c.requires.index.0 (c.rest.ensures.frame ∙ ap frame_of c.index_mut-head.ensures.value)

pub returns-else-not-is_recorded-clause-frames : goal.returns-else-not-is_recorded-clause-frames
returns-else-not-is_recorded-clause-frames c = frames_set c.args.heads.now.list.items c.args.index _ c.index_mut-head.result.now c.requires.index.0 (c.rest.ensures.frame ∙ ap frame_of c.index_mut-head.ensures.value)
