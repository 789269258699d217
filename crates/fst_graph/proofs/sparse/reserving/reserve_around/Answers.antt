use Rattle.std.proofs.Common.{Result, Ok, Err, OnOk, IfSome, sym, subst}
use Rattle.fst_heads.specs.{Frames.HasRoomBelow, Nodes.HasRoomAbove}
use Rattle.fst_graph.proofs.sparse.reserving.reserve_around.Goals as goal

pub returns-in-Some-clause-around : goal.returns-in-Some-clause-around
returns-in-Some-clause-around c =
    around c.reserve_below.result c.reserve_below.ensures.room (λ below. (
      subst (HasRoomAbove c.reserve_below.new.heads.list.items) c.as_slice.ensures (c.reserve_below.ensures.above c.as_slice.result.now c.in_ok-reserve_above.ensures.room),
      subst (λ g. IfSome g (λ x. HasRoomBelow c.reserve_below.new.heads.list.items x.tail)) (sym c.in-Some.is) below,
    ))
  where
    around : {A E P Q : Type 0} (r : Result A E) → OnOk r P → (P → Q) → OnOk r Q
    around (Ok a) p f = f p
    around (Err e) p f = tt
