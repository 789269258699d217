use Rattle.fst_heads.proofs.{Basics.{◌≡◌, ◌∙◌, get_or, ap, arith, common_steps}, Words.{Head, patch_of, node_of}}
use Rattle.fst_heads.proofs.Linking.{rising_same, nodes_set, room_all, room_more, room_skip}
use Rattle.fst_heads.proofs.links.reserve_above.Goals as goal
use Rattle.fst_heads.proofs.links.reserve_above.Goals.{in-Some+in_ok-reserve, in_default}

pub loop-number-preserved : goal.loop-number-preserved
loop-number-preserved c =
    let heads = c.loop-number.heads.list.items in
    let row = c.args.row.now in
    let i = c.loop-number.number-index in
    let before = c.loop-number.invariant in
    elim c.match-index_of.branch [
      | in-Some+in_ok-reserve w ↦
          let s = w.in-Some.index in
          let index = w.in-Some.ensures.found in
          let head = w.index_mut.result.now in
          let room : Head = record head { dependants = w.reserve.new.self } in
          let node : node_of room ≡ node_of (get_or heads s head) = ap (λ ns. record { patch = patch_of head; sums = head.sums; pending = head.pending; dependants = ns; forgotten = head.forgotten }) w.in_ok-reserve.ensures.items ∙ ap node_of w.index_mut.ensures.value in
          rw w.heads-is
          (record {
            nodes = nodes_set heads s room head index.0 node ∙ before.nodes;
            room = room_more heads row i s room (rising_same heads c.args.heads.now.list.items before.nodes c.args.heads.now.rising) index w.in_ok-reserve.ensures.ok before.room;
            len = before.len;
            capacity = before.capacity;
          })
      | in_default w ↦ grind (arith, room_skip)
    ]

pub returns-clause-capacity : goal.returns-clause-capacity
returns-clause-capacity c = grind (arith, common_steps)

pub returns-clause-len : goal.returns-clause-len
returns-clause-len c = grind (arith, common_steps)

pub returns-clause-nodes : goal.returns-clause-nodes
returns-clause-nodes c = grind (arith, common_steps)

pub returns-clause-room : goal.returns-clause-room
returns-clause-room c = room_all c.loop-number.heads.list.items c.args.row.now c.loop-number.number-index c.loop-number.invariant.room (omega (arith, c.loop-number-test.false))

pub returns-in_err-reserve-clause-capacity : goal.returns-in_err-reserve-clause-capacity
returns-in_err-reserve-clause-capacity c = grind (arith, common_steps)

pub returns-in_err-reserve-clause-len : goal.returns-in_err-reserve-clause-len
returns-in_err-reserve-clause-len c = grind (arith, common_steps)

pub returns-in_err-reserve-clause-nodes : goal.returns-in_err-reserve-clause-nodes
returns-in_err-reserve-clause-nodes c = grind (arith, common_steps)

pub returns-in_err-reserve-clause-room : goal.returns-in_err-reserve-clause-room
returns-in_err-reserve-clause-room c = grind (arith, common_steps)
