use Rattle.fst_heads.proofs.Basics.{◌∙◌, length, ap, subst, arith, length-map}
use Rattle.fst_heads.proofs.{Words.{frame_of, Rises, nodes_of, Spreading}, Framed.frames_set, Going.{rises_way, rises_back}}
use Rattle.fst_heads.proofs.{Rising.{small, once_behind, updated_behind, room_behind, turned_behind}, Indexed.{none_of_number}, Notifying.last_waits}
use Rattle.fst_heads.proofs.launch.rise.Goals as goal

pub overflow_cast-own : goal.overflow_cast-own
overflow_cast-own c =
    let start = c.loop-number.invariant.spreading in
    let S = subst (Spreading (Rises c.args.block) (nodes_of c.loop-number.heads.list.items) start.0) c.in-Some.ensures.items start.2 in
    let few = small c.args.block (nodes_of c.loop-number.heads.list.items) start.0 c.pop.new.self.items c.in-Some.number start.1 S in
    omega (arith, few)

pub notify-requires : goal.notify-requires
notify-requires c =
    let heads = c.loop-number.heads.list.items in
    let queue = c.pop.new.self.items in
    let q = c.in-Some.number in
    let s = c.in-Some-index_of.index in
    let blocks = c.loop-number.invariant.spreading.0 in
    let narrow = c.loop-number.invariant.spreading.1 in
    let S = subst (Spreading (Rises c.args.block) (nodes_of heads) blocks) c.in-Some.ensures.items c.loop-number.invariant.spreading.2 in
    let found = c.in-Some-index_of.ensures.found in
    let linked = c.loop-number.invariant.linked in
    let distinct = c.loop-number.invariant.distinct in
    let h = c.index_mut.result.now in
    let e = c.index_mut.ensures.value in
    record {
      index = omega (arith, found.0, c.loop-number.heads.list.ok.0);
      once = once_behind c.args.block heads blocks queue q s narrow S linked distinct found h e;
      summed = updated_behind c.args.block heads blocks queue q s narrow S linked distinct found h e;
      live = λ none. cc;
      room = λ d.
          let room = room_behind c.args.block heads blocks queue q s narrow S linked distinct found h e d in
          omega (arith, room, ap length c.loop-number.invariant.frames, length-map heads frame_of, length-map c.args.heads.now.list.items frame_of, c.requires.room, c.loop-number.invariant.capacity, c.in-Some.ensures.capacity, c.pop.new.self.ok.0);
    }

pub loop-number-smaller-in-Some-index_of : goal.loop-number-smaller-in-Some-index_of
loop-number-smaller-in-Some-index_of c =
    let heads = c.loop-number.heads.list.items in
    let queue = c.pop.new.self.items in
    let q = c.in-Some.number in
    let s = c.in-Some-index_of.index in
    let blocks = c.loop-number.invariant.spreading.0 in
    let narrow = c.loop-number.invariant.spreading.1 in
    let S = subst (Spreading (Rises c.args.block) (nodes_of heads) blocks) c.in-Some.ensures.items c.loop-number.invariant.spreading.2 in
    let found = c.in-Some-index_of.ensures.found in
    let linked = c.loop-number.invariant.linked in
    let distinct = c.loop-number.invariant.distinct in
    let h = c.index_mut.result.now in
    let e = c.index_mut.ensures.value in
    let turn = turned_behind c.args.block heads blocks queue q s narrow S linked distinct found h e (nodes_of c.notify.new.heads.list.items) c.notify.new.queue.items c.notify.ensures.nodes c.notify.ensures.queued in
    turn.falls

pub loop-number-preserved-in-Some-index_of : goal.loop-number-preserved-in-Some-index_of
loop-number-preserved-in-Some-index_of c =
    let heads = c.loop-number.heads.list.items in
    let queue = c.pop.new.self.items in
    let q = c.in-Some.number in
    let s = c.in-Some-index_of.index in
    let blocks = c.loop-number.invariant.spreading.0 in
    let narrow = c.loop-number.invariant.spreading.1 in
    let S = subst (Spreading (Rises c.args.block) (nodes_of heads) blocks) c.in-Some.ensures.items c.loop-number.invariant.spreading.2 in
    let found = c.in-Some-index_of.ensures.found in
    let linked = c.loop-number.invariant.linked in
    let distinct = c.loop-number.invariant.distinct in
    let h = c.index_mut.result.now in
    let e = c.index_mut.ensures.value in
    let turn = turned_behind c.args.block heads blocks queue q s narrow S linked distinct found h e (nodes_of c.notify.new.heads.list.items) c.notify.new.queue.items c.notify.ensures.nodes c.notify.ensures.queued in
    let before = c.loop-number.invariant in
    record {
      spreading = (blocks, narrow, turn.spreading);
      linked = turn.are_linked;
      distinct = turn.are_distinct;
      risen = turn.risen (rises_back c.args.block) ∙ before.risen;
      rises = λ n. (rises_way c.args.block).trans _ _ _ (before.rises n) (turn.each_goes n);
      frames = c.notify.ensures.frames ∙ (frames_set heads s _ h found.0 (ap frame_of e) ∙ before.frames);
      places = c.notify.ensures.places ∙ before.places;
      capacity = c.notify.ensures.capacity ∙ (c.in-Some.ensures.capacity ∙ before.capacity);
    }

absent : (c : goal.In_default-index_of) → ⊥
absent c =
    let nodes = nodes_of c.loop-number.heads.list.items in
    let blocks = c.loop-number.invariant.spreading.0 in
    let S = subst (Spreading (Rises c.args.block) nodes blocks) c.in-Some.ensures.items c.loop-number.invariant.spreading.2 in
    let x = last_waits nodes blocks c.pop.new.self.items c.in-Some.number S in
    none_of_number c.loop-number.heads.list.items c.in-Some.number x.0 (c.in_default-index_of.ensures.none) x.1 x.2

pub loop-number-smaller : goal.loop-number-smaller
loop-number-smaller c = absurd (absent c)

pub loop-number-preserved : goal.loop-number-preserved
loop-number-preserved c = absurd (absent c)
