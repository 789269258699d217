use Rattle.std.proofs.Common.{◌≡◌, ◌+◌, ◌∷◌, [], ◌∙◌, arith, subst, sym, ap, length, count_by}
use Rattle.fst_types.specs.{Facts.SparseAreLawful, Making.fresh, Patches.{Patch, OpenGate}}
use Rattle.fst_heads.specs.{Heads.patches_of, Nodes.{nodes_of, HasRoomAbove}, Spreading.is_waiting}
use Rattle.fst_graph.specs.Fresh.{patch_from, IsNewest}
use Rattle.fst_heads.proofs.{Added.with_node, Beside.waiting_with, Making.gate_lawful}
use Rattle.fst_levels.proofs.Ancestral.{none_goes_under}
use Rattle.fst_graph.proofs.{Made.{gate_added, more_after, more_as, put_patches}}
use Rattle.fst_graph.proofs.GreatestNumber.{next_newest}
use Rattle.fst_graph.proofs.columns.Columns.add_two.Goals.{After-gate-head, After-reserve, After-put_down}
use Rattle.fst_graph.proofs.columns.Columns.add_two.Goals as goal

lawful : (c : After-reserve) → SparseAreLawful (patches_of c.reserve.new.self.heads.list.items) c.args.numbers
lawful c = rw c.reserve.ensures.same c.requires.lawful

-- the first gate, and the nodes with it
head : (c : After-put_down) → patch_from c.gate-head.result ≡ fresh (c.args.numbers + 1) OpenGate []
head c = c.gate-head.ensures ∙ ap (fresh (c.args.numbers + 1) OpenGate) c.new.ensures.items

first : (c : After-put_down) → nodes_of c.put_down.new.self.heads.list.items ≡ with_node (nodes_of c.reserve.new.self.heads.list.items) (fresh (c.args.numbers + 1) OpenGate [])
first c = c.put_down.ensures.put.nodes ∙ ap (with_node (nodes_of c.reserve.new.self.heads.list.items)) (head c)

-- the first gate has the greatest number
newest : (c : After-gate-head) → IsNewest c.gate-head.result.number c.reserve.new.self
newest c =
    let own : c.gate-head.result.number ≡ c.args.numbers + 1 = ap (λ (q : Patch). q.number) c.gate-head.ensures in
    rw own (record { heads = rw c.reserve.ensures.same c.requires.newest.heads; ranks = rw c.reserve.ensures.roomier.ranks c.requires.newest.ranks })

pub put_down-requires-clause-newest : goal.put_down-requires-clause-newest
put_down-requires-clause-newest c = newest (goal.at.put_down-requires-clause-newest c).After-gate-head

pub put_down-requires-2-clause-newest : goal.put_down-requires-2-clause-newest
put_down-requires-2-clause-newest c =
    let first : c.gate-head.result.number ≡ c.args.numbers + 1 = ap (λ (q : Patch). q.number) c.gate-head.ensures in
    let own : c.gate-tail.result.number ≡ c.gate-head.result.number + 1 = ap (λ (q : Patch). q.number) c.gate-tail.ensures ∙ ap (λ n. n + 1) (sym first) in
    rw own (next_newest (newest (goal.at.put_down-requires-2-clause-newest c).After-gate-head) c.put_down.ensures.put)

pub put_down-requires-2-clause-above : goal.put_down-requires-2-clause-above
put_down-requires-2-clause-above c =
    let at = goal.at.put_down-requires-2-clause-above c in
    let own : c.gate-head.result.number ≡ c.args.numbers + 1 = ap (λ (p : Patch). p.number) c.gate-head.ensures in
    let row : c.gate-tail.result.dependencies.items ≡ (c.args.numbers + 1) ∷ [] = ap (λ (p : Patch). p.dependencies) c.gate-tail.ensures ∙ c.row_of.ensures in
    subst (HasRoomAbove c.put_down.new.self.heads.list.items) (ap (λ m. m ∷ []) own ∙ sym row) c.put_down.ensures.above

pub put_down-requires-2-clause-places : goal.put_down-requires-2-clause-places
put_down-requires-2-clause-places c = c.put_down.ensures.places 1 c.in_ok-reserve.ensures.places

pub put_down-requires-clause-few : goal.put_down-requires-clause-few
put_down-requires-clause-few c = rw c.reserve.ensures.same (omega (arith, c.requires.few))

pub put_down-requires-2-clause-few : goal.put_down-requires-2-clause-few
put_down-requires-2-clause-few c =
    let at = (goal.at.put_down-requires-2-clause-few c).After-put_down in
    let nodes = nodes_of c.reserve.new.self.heads.list.items in
    rw (first at) (omega (arith, waiting_with nodes (fresh (c.args.numbers + 1) OpenGate []), ap (λ hs. count_by is_waiting (nodes_of hs)) c.reserve.ensures.same, c.requires.few))

pub returns-clause-added : goal.returns-clause-added
returns-clause-added c =
    let R = c.reserve.ensures.roomier in
    let at = goal.at.returns-clause-added c in
    let wide = c.in_ok-reserve.ensures.queue in
    let tail : patch_from c.gate-tail.result ≡ fresh (c.args.numbers + 1 + 1) OpenGate ((c.args.numbers + 1) ∷ []) = c.gate-tail.ensures ∙ ap (fresh (c.args.numbers + 1 + 1) OpenGate) c.row_of.ensures in
    let same = ap length c.reserve.ensures.same in
    let with_first = subst (λ ps. SparseAreLawful ps (c.args.numbers + 1)) (sym (put_patches c.reserve.new.self.heads.list.items c.put_down.new.self.heads.list.items (fresh (c.args.numbers + 1) OpenGate []) (first at.After-put_down))) (gate_lawful (patches_of c.reserve.new.self.heads.list.items) c.args.numbers (lawful at.After-reserve)) in
    record {
      between = c.put_down.new.self;
      head = gate_added (more_as (head at.After-put_down) c.no_ancestry.ensures (more_after R c.put_down.ensures.put)) (none_goes_under (patches_of c.args.self.now.heads.list.items) (λ q h. (c.requires.lawful.one_place_each.numbered q h).0) (c.args.numbers + 1) [] (omega arith)) (omega (arith, wide, same, c.put_down.ensures.put.wide, c.args.self.now.heads.list.ok.0, c.reserve.new.self.heads.list.ok.0));
      tail = gate_added (more_as tail c.no_ancestry-2.ensures c.put_down-2.ensures.put) (none_goes_under (patches_of c.put_down.new.self.heads.list.items) (λ q h. (with_first.one_place_each.numbered q h).0) (c.args.numbers + 1 + 1) ((c.args.numbers + 1) ∷ []) (omega arith)) (omega (arith, wide, c.put_down.ensures.len, c.put_down.ensures.put.wide, c.put_down-2.ensures.put.wide));
    }
