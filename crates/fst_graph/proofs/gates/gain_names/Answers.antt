use Rattle.std.proofs.Common.{◌∙◌, Contains, map, ap, subst, arith}
use Rattle.fst_types.specs.{Dependencies.{DirectlyOn, IsLiveNumber}, Lists.Lists}
use Rattle.fst_heads.specs.{Heads.patches_of, Names.numbers_of, Nodes.{nodes_of, at_number, gains_names}}
use Rattle.fst_heads.proofs.{AtNumber.patches_in_nodes, Few.{apart_rising, gain_few, row_few}}
use Rattle.fst_graph.proofs.Made.{named_nodes, summed}
use Rattle.fst_graph.proofs.gates.gain_names.Goals.{After-reserve_above}
use Rattle.fst_graph.proofs.gates.gain_names.Goals as goal

-- the names rise, and the gate has none of them
names : (c : After-reserve_above) → Lists (λ n. IsLiveNumber (patches_of c.args.heads.now.list.items) n × Contains (numbers_of c.args.on.now) n × (DirectlyOn (patches_of c.args.heads.now.list.items) c.args.gate n → ⊥)) c.in_ok-names.names.items
names c = c.in_ok-names.ensures

pub row_sums-sums-requires : goal.row_sums-sums-requires
row_sums-sums-requires c =
    let heads = c.args.heads.now.list.items in
    let row = c.in_ok-names.names.items in
    let L = names (goal.at.row_sums-sums-requires c).After-reserve_above in
    let few = row_few (nodes_of heads) row (apart_rising row L.rising) in
    record { room = rw (c.reserve_above.ensures.nodes, c.as_slice-2.ensures) (omega (arith, few, c.requires.few)) }

pub gain-requires-clause-counted : goal.gain-requires-clause-counted
gain-requires-clause-counted c =
    let heads = c.args.heads.now.list.items in
    let nodes = nodes_of heads in
    let row = c.in_ok-names.names.items in
    let L = names (goal.at.gain-requires-clause-counted c).After-reserve_above in
    let sums = summed _ heads c.row_sums-sums.ensures.sums c.reserve_above.ensures.nodes c.as_slice-2.ensures in
    rw (c.reserve_above.ensures.nodes, sums) (λ x k same.
    let own = c.requires.summed x k in
    let most = gain_few nodes c.args.gate row c.requires.distinct L.rising (λ n h on. (L.only n h).2 (subst (λ ps. DirectlyOn ps c.args.gate n) (patches_in_nodes heads) on)) x k same own.0 in
    (omega (arith, most, c.requires.few), own.1))

pub returns-clause-gained : goal.returns-clause-gained
returns-clause-gained c =
    let old = c.args.heads.now.list.items in
    let gate = c.args.gate in
    let row = c.in_ok-names.names.items in
    let sums = summed _ old c.row_sums-sums.ensures.sums c.reserve_above.ensures.nodes c.as_slice-2.ensures in
    let gained = c.in_ok-gain.ensures.ok ∙ ap (map (at_number gate (gains_names c.as_slice-3.result.now c.row_sums-sums.result))) c.reserve_above.ensures.nodes in (
      row,
      names (goal.at.returns-clause-gained c).After-reserve_above,
      named_nodes old c.gain.new.heads.list.items _ gate sums gained c.as_slice-3.ensures c.link.ensures.nodes c.as_slice-4.ensures,
    )
