use Rattle.fst_heads.proofs.Basics.{◌≡◌, ◌≢◌, ◌∙◌, ◌+◌, ◌<◌, ◌≤◌, ◌∷◌, [], AllPairs, Contains, length, map, take, get_or, vec_capacity, append-nil, append_assoc, length-append, arith, ap, sym, subst, length-map, take_all, rules}
use Rattle.fst_heads.proofs.Words.{node_of, nodes_of, at_number, CanUpdate, updated, notified, enqueued}
use Rattle.fst_heads.proofs.Indexed.{row_at, row_is, at_row, row_of, row_now, length_notified, notified_none, notified_before, notified_more, enqueued_more, enqueued_room}
use Rattle.fst_heads.proofs.Indices.{any_default}
use Rattle.fst_heads.proofs.cascade.notify.Goals as goal

pub loop-at-init : goal.loop-at-init
loop-at-init c = grind (arith, notified_none, append-nil)

pub update_at-requires : goal.update_at-requires
update_at-requires c =
    let heads = c.args.heads.now.list.items in
    let start = nodes_of heads in
    let row = row_at start c.args.index in
    let i = c.loop-at.at in
    let inside : c.args.index < length start = omega (arith, c.requires.index, length-map heads node_of) in
    let here = row_of heads c.loop-at.heads.list.items (take i row) c.args.old c.args.new c.args.index c.index.result.now (omega (arith, c.requires.index)) c.loop-at.invariant.nodes c.index.ensures in
    let lt : i < length row = omega (arith, c.len.ensures.value, ap length here, c.loop-at-test.true) in
    let once = at_row (λ ms. AllPairs (λ m n. m ≢ n) ms) start c.args.index inside c.requires.once in
    let named = c.as_slice.ensures ∙ row_of heads c.loop-at.heads.list.items (take i row) c.args.old c.args.new c.args.index c.index-in-loop-at.result.now (omega (arith, c.requires.index)) c.loop-at.invariant.nodes c.index-in-loop-at.ensures in
    let number = ap (λ ns. get_or ns i 0) named in
    record {
      summed = λ x contained numbered.
          let was = notified_before row once i lt c.args.old c.args.new start x (subst (λ ns. Contains ns x) c.loop-at.invariant.nodes contained) (numbered ∙ number) in
          let among : Contains row x.patch.number = (i, lt, any_default row i x.patch.number 0 lt ∙ sym (numbered ∙ number)) in
          at_row (λ ms. Contains ms x.patch.number → CanUpdate c.args.old x) start c.args.index inside (λ d. c.requires.summed x d was) among;
      live = c.requires.live;
      room = λ x contained numbered enqueues.
          let fewer = enqueued_room row once i lt c.args.old c.args.new start x (subst (λ ns. Contains ns x) c.loop-at.invariant.nodes contained) (numbered ∙ number) enqueues in
          let room = at_row (λ ms. length c.args.queue.now.items + length (enqueued ms c.args.old c.args.new start) ≤ vec_capacity c.args.queue.now) start c.args.index inside c.requires.room in
          let long = ap length c.loop-at.invariant.queued ∙ length-append c.args.queue.now.items (enqueued (take i row) c.args.old c.args.new start) in
          omega (arith, fewer, room, long, c.loop-at.invariant.capacity, c.loop-at.queue.ok.0);
    }

pub loop-at-smaller : goal.loop-at-smaller
loop-at-smaller c = grind (arith, length-map, length_notified, row_now)

pub loop-at-preserved : goal.loop-at-preserved
loop-at-preserved c =
    let heads = c.args.heads.now.list.items in
    let start = nodes_of heads in
    let row = row_at start c.args.index in
    let i = c.loop-at.at in
    let inside : c.args.index < length start = omega (arith, c.requires.index, length-map heads node_of) in
    let here = row_of heads c.loop-at.heads.list.items (take i row) c.args.old c.args.new c.args.index c.index.result.now (omega (arith, c.requires.index)) c.loop-at.invariant.nodes c.index.ensures in
    let lt : i < length row = omega (arith, c.len.ensures.value, ap length here, c.loop-at-test.true) in
    let once = at_row (λ ms. AllPairs (λ m n. m ≢ n) ms) start c.args.index inside c.requires.once in
    let named = c.as_slice.ensures ∙ row_of heads c.loop-at.heads.list.items (take i row) c.args.old c.args.new c.args.index c.index-in-loop-at.result.now (omega (arith, c.requires.index)) c.loop-at.invariant.nodes c.index-in-loop-at.ensures in
    let number = ap (λ ns. get_or ns i 0) named in
    let before = c.loop-at.invariant in
    let nodes : nodes_of c.update_at.new.heads.list.items ≡ map (notified (take (i + 1) row) c.args.old c.args.new) start =
    c.update_at.ensures.nodes
    ∙ (ap (λ n. map (at_number n (updated c.args.old c.args.new)) (nodes_of c.loop-at.heads.list.items)) number
    ∙ (ap (map (at_number (get_or row i 0) (updated c.args.old c.args.new))) before.nodes ∙ notified_more row once i lt c.args.old c.args.new start)) in
    let enqueues =
    ap (λ n. enqueued (n ∷ []) c.args.old c.args.new (nodes_of c.loop-at.heads.list.items)) number
    ∙ ap (enqueued (get_or row i 0 ∷ []) c.args.old c.args.new) before.nodes in
    record {
      nodes = nodes;
      queued = grind (arith, append_assoc, enqueued_more);
      len = omega (arith, length_notified start c.update_at.new.heads.list.items (take (i + 1) row) c.args.old c.args.new nodes, length-map heads node_of);
      capacity = c.update_at.ensures.capacity ∙ before.capacity;
      frames = c.update_at.ensures.frames ∙ before.frames;
      places = c.update_at.ensures.places ∙ before.places;
    }

pub returns-clause-nodes : goal.returns-clause-nodes
returns-clause-nodes c d = search (rules, length-map, length_notified, row_now, take_all, row_is)

pub returns-clause-queued : goal.returns-clause-queued
returns-clause-queued c d = grind (arith, length-map, length_notified, row_now, take_all, row_is)
