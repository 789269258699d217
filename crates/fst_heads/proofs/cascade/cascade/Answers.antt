use Rattle.fst_heads.proofs.Basics.{◌≡◌, ◌∙◌, ◌++◌, ◌∷◌, [], get_or, if◌then◌else◌, length, count_by, ap, subst, sym, arith, length-map, nil_from_length, rules}
use Rattle.fst_heads.proofs.{Patches.In-from_Contains, Words.{node_of, nodes_of, is_pending, Sinks, Spreading, is_waiting, now, AllStand}}
use Rattle.fst_heads.proofs.{Beside.{waits_stale, waiting_recorded, waiting_notified}, Landed.{length_if, place_noted, notified_noted}}
use Rattle.fst_heads.proofs.Popping.{fits_there, stale_there, after_is, once_after, live_after, updated_after, room_after, turned, cascaded_heads}
use Rattle.fst_heads.proofs.{Notifying.last_waits, Indexed.{rising_indices, none_of_number, node_at_index, node_is}, Stands.stand_notified, Starting.settled_spread}
use Rattle.fst_heads.proofs.Carried.{spread_trans, length_spread}
use Rattle.fst_heads.proofs.Going.{sinks_way}
use Rattle.fst_heads.proofs.Words.pending
use Rattle.fst_heads.proofs.cascade.cascade.Goals as goal

pub record_at-old-requires : goal.record_at-old-requires
record_at-old-requires c =
    let heads = c.loop-number.heads.list.items in
    let blocks = length c.args.standings.now in
    let queue = c.pop.new.self.items in
    let q = c.in-Some.number in
    let s = c.in-Some-index_of.index in
    let S = subst (Spreading Sinks (nodes_of heads) blocks) c.in-Some.ensures.items c.loop-number.invariant.spreading in
    let found = c.in-Some-index_of.ensures.found in
    record {
      index = omega (arith, found.0, c.loop-number.heads.list.ok.0);
      stale = λ d. record {
        fits = fits_there sinks_way heads blocks queue q s c.requires.room.0 S c.loop-number.invariant.linked c.loop-number.invariant.distinct found d;
        sinks = S.moves (get_or (nodes_of heads) s d) (node_at_index heads q s d found).0;
        stale = stale_there sinks_way heads blocks queue q s c.requires.room.0 S c.loop-number.invariant.linked c.loop-number.invariant.distinct found d;
      };
      inside = λ x b at len grade contained kind.
          omega (arith, S.changes x b at len grade contained kind, c.loop-number.invariant.standing.long);
      standing = search rules;
    }

pub notify-requires : goal.notify-requires
notify-requires c =
    let heads = c.loop-number.heads.list.items in
    let blocks = length c.args.standings.now in
    let queue = c.pop.new.self.items in
    let q = c.in-Some.number in
    let s = c.in-Some-index_of.index in
    let S = subst (Spreading Sinks (nodes_of heads) blocks) c.in-Some.ensures.items c.loop-number.invariant.spreading in
    let found = c.in-Some-index_of.ensures.found in
    let settled = c.record_at-old.ensures in
    let linked = c.loop-number.invariant.linked in
    let distinct = c.loop-number.invariant.distinct in
    let was = c.record_at-old.result.0 in
    let is = c.record_at-old.result.1 in
    let after = nodes_of c.record_at-old.new.heads.list.items in
    let long = length_spread (nodes_of c.args.heads.now.list.items) (nodes_of heads) c.loop-number.invariant.spread in
    record {
      index = omega (arith, found.0, c.loop-number.heads.list.ok.0, settled.len);
      once = once_after sinks_way heads blocks queue q s c.requires.room.0 S linked distinct found was is after settled.old settled.new settled.nodes;
      summed = updated_after sinks_way heads blocks queue q s c.requires.room.0 S linked distinct found was is after settled.old settled.new settled.nodes;
      live = live_after sinks_way heads blocks queue q s c.requires.room.0 S linked distinct found was is after settled.old settled.new settled.nodes;
      room = λ d.
          let room = room_after sinks_way heads blocks queue q s c.requires.room.0 S linked distinct found was is after settled.old settled.new settled.nodes d in
          omega (arith, room, long, length-map heads node_of, length-map c.args.heads.now.list.items node_of, c.requires.room.1, c.loop-number.invariant.capacity, c.in-Some.ensures.capacity);
    }

pub loop-number-smaller-in-Some-index_of : goal.loop-number-smaller-in-Some-index_of
loop-number-smaller-in-Some-index_of c =
    let heads = c.loop-number.heads.list.items in
    let nodes = nodes_of heads in
    let blocks = length c.args.standings.now in
    let queue = c.pop.new.self.items in
    let q = c.in-Some.number in
    let s = c.in-Some-index_of.index in
    let S = subst (Spreading Sinks nodes blocks) c.in-Some.ensures.items c.loop-number.invariant.spreading in
    let found = c.in-Some-index_of.ensures.found in
    let settled = c.record_at-old.ensures in
    let after = nodes_of c.record_at-old.new.heads.list.items in
    let turn = turned sinks_way heads blocks queue q s c.requires.room.0 S c.loop-number.invariant.linked c.loop-number.invariant.distinct found c.record_at-old.result.0 c.record_at-old.result.1 after settled.old settled.new settled.nodes (nodes_of c.notify.new.heads.list.items) c.notify.new.queue.items c.notify.ensures.nodes c.notify.ensures.queued in
    turn.falls

pub loop-number-preserved-in-Some-index_of : goal.loop-number-preserved-in-Some-index_of
loop-number-preserved-in-Some-index_of c =
    let heads = c.loop-number.heads.list.items in
    let nodes = nodes_of heads in
    let blocks = length c.args.standings.now in
    let queue = c.pop.new.self.items in
    let q = c.in-Some.number in
    let s = c.in-Some-index_of.index in
    let S = subst (Spreading Sinks nodes blocks) c.in-Some.ensures.items c.loop-number.invariant.spreading in
    let found = c.in-Some-index_of.ensures.found in
    let settled = c.record_at-old.ensures in
    let after = nodes_of c.record_at-old.new.heads.list.items in
    let turn = turned sinks_way heads blocks queue q s c.requires.room.0 S c.loop-number.invariant.linked c.loop-number.invariant.distinct found c.record_at-old.result.0 c.record_at-old.result.1 after settled.old settled.new settled.nodes (nodes_of c.notify.new.heads.list.items) c.notify.new.queue.items c.notify.ensures.nodes c.notify.ensures.queued in
    let same : length c.loop-number.standings ≡ length c.args.standings.now = omega (arith, c.loop-number.invariant.standing.long) in
    let start = nodes_of c.args.heads.now.list.items in
    let next = nodes_of c.notify.new.heads.list.items in
    let d = (last_waits nodes blocks queue q S).0 in
    let here = last_waits nodes blocks queue q S in
    let waits = waits_stale here.0 (S.moves here.0 here.1) here.3 in
    let is = node_is heads q s here.0 d (rising_indices heads S.rising) found here.1 here.2 in
    let less = waiting_recorded nodes q here.0 S.rising (In-from_Contains nodes here.0 here.1) here.2 waits in
    let first_is = after_is sinks_way heads blocks queue q s c.requires.room.0 S c.loop-number.invariant.linked c.loop-number.invariant.distinct found c.record_at-old.result.0 c.record_at-old.result.1 after settled.old settled.new settled.nodes in
    let first = ap (count_by is_waiting) first_is in
    let left = c.record_at-old.result.1 in
    let landed = c.loop-number.landed.items in
    let own : c.note_landing.new.landed.items ≡ landed ++ (if is_pending (now here.0) pending.Nothing then q ∷ [] else []) =
    c.note_landing.ensures.listed ∙ ap (λ p. landed ++ (if is_pending p pending.Nothing then q ∷ [] else [])) (settled.new d ∙ ap now is) in
    let one = ap length own ∙ length_if landed (is_pending (now here.0) pending.Nothing) q in
    let noted = notified_noted nodes landed q here.0 S.rising c.loop-number.invariant.listed here.1 here.2 waits in
    record {
      listed = rw (c.notify.ensures.nodes d, own, first_is) (noted _ _ _);
      counted = omega (arith, c.loop-number.invariant.counted, ap (count_by is_waiting) (c.notify.ensures.nodes d) ∙ waiting_notified _ _ _ after, first, less, one);
      more = omega (arith, c.loop-number.invariant.more, one);
      shelf = c.note_landing.ensures.shelf ∙ c.loop-number.invariant.shelf;
      spreading = turn.spreading;
      linked = turn.are_linked;
      distinct = turn.are_distinct;
      standing = subst (λ k. AllStand next k c.record_at-old.new.standings) same (rw (c.notify.ensures.nodes d) (stand_notified after (length c.loop-number.standings) c.record_at-old.new.standings _ _ _ settled.standing));
      spread = spread_trans start nodes next c.loop-number.invariant.spread turn.spread;
      capacity = c.notify.ensures.capacity ∙ (c.in-Some.ensures.capacity ∙ c.loop-number.invariant.capacity);
      frames = c.notify.ensures.frames ∙ (settled.frames ∙ c.loop-number.invariant.frames);
      places = c.notify.ensures.places ∙ (settled.places ∙ c.loop-number.invariant.places);
    }

pub note_landing-requires : goal.note_landing-requires
note_landing-requires c none =
    let heads = c.loop-number.heads.list.items in
    let nodes = nodes_of heads in
    let q = c.in-Some.number in
    let s = c.in-Some-index_of.index in
    let S = subst (Spreading Sinks nodes (length c.args.standings.now)) c.in-Some.ensures.items c.loop-number.invariant.spreading in
    let found = c.in-Some-index_of.ensures.found in
    let here = last_waits nodes (length c.args.standings.now) c.pop.new.self.items q S in
    let d = here.0 in
    let is = node_is heads q s here.0 d (rising_indices heads S.rising) found here.1 here.2 in
    let told = ap (λ p. is_pending p pending.Nothing) (sym (ap now is) ∙ (sym (c.record_at-old.ensures.new d) ∙ none)) in
    let place = place_noted nodes c.loop-number.landed.items q here.0 S.rising c.loop-number.invariant.listed here.1 here.2 (waits_stale here.0 (S.moves here.0 here.1) here.3) told in
    let long = length_spread (nodes_of c.args.heads.now.list.items) nodes c.loop-number.invariant.spread in
    omega (arith, place, long, length-map heads node_of, length-map c.args.heads.now.list.items node_of, c.requires.room.2, c.loop-number.invariant.shelf, c.loop-number.landed.ok.0)

-- the number is that of a head
absent : (c : goal.In_default-index_of) → ⊥
absent c =
    let nodes = nodes_of c.loop-number.heads.list.items in
    let S = subst (Spreading Sinks nodes (length c.args.standings.now)) c.in-Some.ensures.items c.loop-number.invariant.spreading in
    let x = last_waits nodes (length c.args.standings.now) c.pop.new.self.items c.in-Some.number S in
    none_of_number c.loop-number.heads.list.items c.in-Some.number x.0 (c.in_default-index_of.ensures.none) x.1 x.2

pub loop-number-smaller : goal.loop-number-smaller
loop-number-smaller c = absurd (absent c)

pub loop-number-preserved : goal.loop-number-preserved
loop-number-preserved c = absurd (absent c)

pub returns-clause-settled : goal.returns-clause-settled
returns-clause-settled c =
    -- nothing waits where nothing was popped
    let left : Spreading Sinks (nodes_of c.loop-number.heads.list.items) (length c.args.standings.now) [] = grind (arith, nil_from_length) in
    settled_spread (nodes_of c.loop-number.heads.list.items) (length c.args.standings.now) left

pub returns-clause-placed : goal.returns-clause-placed
returns-clause-placed c =
    let left : Spreading Sinks (nodes_of c.loop-number.heads.list.items) (length c.args.standings.now) [] = grind (arith, nil_from_length) in
    cascaded_heads c.args.heads.now.list.items c.loop-number.heads.list.items (length c.args.standings.now) left c.loop-number.invariant.spread
