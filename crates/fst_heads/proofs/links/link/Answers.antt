use Rattle.std.proofs.lemmas.Grind.{common_steps}
use Rattle.fst_heads.proofs.{Basics.{◌≡◌, ◌∙◌, get_or, map, ap, take, arith, rules}, Words.{Head, patch_of, node_of, nodes_of, at_number}}
use Rattle.fst_heads.proofs.{AtNumber.{at_index, at_none}, Framed.still_below}
use Rattle.fst_heads.proofs.Linking.{adds, rising_linked, room_first, room_left, room_fewer, link_none, link_more}
use Rattle.fst_heads.proofs.links.link.Goals as goal
use Rattle.fst_heads.proofs.links.link.Goals.{in-Some, in_default}

pub loop-other-init : goal.loop-other-init
loop-other-init c = search (rules, link_none, room_first)

pub loop-other-preserved : goal.loop-other-preserved
loop-other-preserved c =
    let heads = c.loop-other.heads.list.items in
    let row = c.args.row.now in
    let i = c.loop-other.other-index in
    let n = c.args.number in
    let before = c.loop-other.invariant in
    let more = link_more (nodes_of c.args.heads.now.list.items) row i n c.requires.once c.loop-other-test.true in
    elim c.match-index_of.branch [
      | in-Some w ↦
          let s = w.in-Some.index in
          let index = w.in-Some.ensures.found in
          let head = w.index_mut.result.now in
          let linked : Head = record head { dependants = w.push_reserved.new.self } in
          let node : node_of linked ≡ adds n (node_of (get_or heads s head)) = ap (λ ns. record { patch = patch_of head; sums = head.sums; pending = head.pending; dependants = ns; forgotten = head.forgotten }) w.push_reserved.ensures.items ∙ ap (λ h. adds n (node_of h)) w.index_mut.ensures.value in
          let rising = rising_linked heads c.args.heads.now.list.items (take i row) n before.nodes c.args.heads.now.rising in
          rw w.heads-is
          (record {
            nodes = at_index heads (get_or row i 0) s (adds n) linked head rising index node ∙ (ap (λ xs. map (at_number (get_or row i 0) (adds n)) xs) before.nodes ∙ more);
            room = room_left heads row i s linked c.requires.once index.0 (ap (λ h. h.number) w.index_mut.ensures.value ∙ index.1 head) before.room;
            below = λ m below. still_below heads s linked head index.0 (ap (λ h. h.number) w.index_mut.ensures.value) (ap (λ (h : Head). h.dependencies) w.index_mut.ensures.value) m (before.below m below);
            len = before.len;
            capacity = before.capacity;
          })
      | in_default w ↦ grind (arith, at_none, room_fewer)
    ]

pub returns-clause-nodes : goal.returns-clause-nodes
returns-clause-nodes c = grind (arith, common_steps)
