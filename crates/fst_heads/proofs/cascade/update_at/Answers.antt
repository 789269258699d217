use Rattle.fst_heads.proofs.{Basics.{◌∙◌, sym, ap, rules, arith}, Words.{frame_of, node_of, enqueues}, AtNumber.{at_index, at_none}}
use Rattle.fst_heads.proofs.{Framed.{frames_set, rising_framed}, PendingAt.holds_at, Indexed.{waits_none, stays_index, waits_index}}
use Rattle.fst_heads.proofs.cascade.update_at.Goals as goal

pub update-requires-clause-summed : goal.update-requires-clause-summed
update-requires-clause-summed c = holds_at c.args.heads.now.list.items c.args.number c.in-Some.index c.index_mut.result.now c.in-Some.ensures.found c.index_mut.ensures.value c.requires.summed

pub invariant_of-heads : goal.invariant_of-heads
invariant_of-heads c =
    let heads = c.args.heads.now.list.items in
    record { rising = rising_framed _ heads (frames_set heads c.in-Some.index c.update.new.head c.index_mut.result.now c.in-Some.ensures.found.0 (c.update.ensures.frame ∙ ap frame_of c.index_mut.ensures.value)) c.args.heads.now.rising }

pub push_reserved-requires : goal.push_reserved-requires
push_reserved-requires c =
    holds_at c.args.heads.now.list.items c.args.number c.in-Some.index c.index_mut.result.now c.in-Some.ensures.found c.index_mut.ensures.value c.requires.room (sym c.update.ensures.enqueues ∙ c.if-update.true)

pub returns-then-update : goal.returns-then-update
returns-then-update c =
    let heads = c.args.heads.now.list.items in
    let s = c.in-Some.index in
    let index = c.in-Some.ensures.found in
    record {
      nodes = grind (arith, at_index);
      queued = c.push_reserved.ensures.items
          ∙ waits_index heads c.args.number s (enqueues c.args.old c.args.new) c.index_mut.result.now c.args.queue.now.items c.args.heads.now.rising index
          (sym (ap (λ h. enqueues c.args.old c.args.new (node_of h)) c.index_mut.ensures.value) ∙ (sym c.update.ensures.enqueues ∙ c.if-update.true));
      frames = grind (arith, frames_set);
      places = search rules;
      capacity = search rules;
    }

pub returns-else-update : goal.returns-else-update
returns-else-update c =
    let heads = c.args.heads.now.list.items in
    let s = c.in-Some.index in
    let index = c.in-Some.ensures.found in
    record {
      nodes = grind (arith, at_index);
      queued = stays_index heads c.args.number s (enqueues c.args.old c.args.new) c.index_mut.result.now c.args.queue.now.items c.args.heads.now.rising index
          (sym (ap (λ h. enqueues c.args.old c.args.new (node_of h)) c.index_mut.ensures.value) ∙ (sym c.update.ensures.enqueues ∙ c.if-update.false));
      frames = grind (arith, frames_set);
      places = search rules;
      capacity = search rules;
    }

pub returns-in_default-clause-nodes : goal.returns-in_default-clause-nodes
returns-in_default-clause-nodes c = grind (arith, at_none)

pub returns-in_default-clause-queued : goal.returns-in_default-clause-queued
returns-in_default-clause-queued c =
    waits_none c.args.heads.now.list.items c.args.number (enqueues c.args.old c.args.new) c.args.queue.now.items (c.in_default.ensures.none)
