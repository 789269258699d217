use Rattle.std.proofs.Common.{[], refl, ◌≡◌, get_or, ◌∙◌, ◌<◌, ap, subst, sym, arith}
use Rattle.fst_heads.specs.{Heads.patches_of, Names.numbers_of, Nodes.nodes_of, Standings.is_ready_on, Stretches.LieIn, declared.standing.Standing.Standing}
use Rattle.fst_heads.proofs.Counts.{ready_counted}
use Rattle.fst_levels.proofs.Resting.{empty_set, chosen_ready, chosen_refused}
use Rattle.fst_graph.proofs.{Flagged.unspared, Grouped.{failed, fine}, RememberedLooks.{choice, ready}}
use Rattle.fst_graph.proofs.Sound.{as_many_standings, its_list, many_lists, view_gone, with_prepared}
use Rattle.fst_graph.proofs.sparse.Sparse.chosen.Goals.{After-deref-2}
use Rattle.fst_graph.proofs.sparse.Sparse.chosen.Goals as goal

pub ready_set-requires-clause-listed : goal.ready_set-requires-clause-listed
ready_set-requires-clause-listed c =
    rw c.deref-2.ensures.value
    (its_list c.self.invariant.0 c.deref.result.now c.deref.ensures.value c.args.block.0 c.in-Some.ensures.lookup.3.0 c.in-Some.list.now c.in-Some.ensures.lookup.1)

-- the block is one of those that there are
within : (c : After-deref-2) → c.args.block.0 < c.self.inside.blocks
within c =
    let lt = c.in-Some.ensures.lookup.3.0 in
    let many = many_lists c.self.invariant.0 c.deref.result.now c.deref.ensures.value in
    omega (arith, lt, many)

-- the block stands as is told
told : (c : After-deref-2) → c.at-standing.result ≡ get_or c.self.inside.standings c.args.block.0 c.at-standing.result
told c = c.at-standing.ensures.inside c.at-standing.result (omega (arith, within c, as_many_standings c.self.invariant.0))

pub ready_set-requires-clause-ready : goal.ready_set-requires-clause-ready
ready_set-requires-clause-ready c =
    let b = c.args.block.0 in
    let own = c.at-standing.result in
    let ready = ap (λ (s : Standing). s.ready) (told c ∙ c.self.invariant.0.tallies.standing.each b own (within c)) in
    omega (arith, ready_counted b (nodes_of c.self.inside.columns.heads.list.items), ready)

pub ready_set-requires-clause-lie : goal.ready_set-requires-clause-lie
ready_set-requires-clause-lie c =
    let b = c.args.block.0 in
    let own = c.at-standing.result in
    subst (λ (s : Standing). LieIn (is_ready_on b) (nodes_of c.self.inside.columns.heads.list.items) s.ready_in) (sym (told c)) (c.self.invariant.0.tallies.standing.lie b own (within c)).ready

pub returns-in_default-clause-ok : goal.returns-in_default-clause-ok
returns-in_default-clause-ok c =
    let s = c.self.inside in
    let past = c.in_default.ensures.lookup.3 in
    let many = many_lists c.self.invariant.0 c.deref.result.now c.deref.ensures.value in
    rw (← c.self.view_is, c.new.ensures.items) ((choice _ (patches_of s.columns.heads.list.items) (view_gone c.self.invariant) c.self.invariant.0.keeps.lawful.on_disk_with_all c.args.block.0 []).1 (empty_set (patches_of s.columns.heads.list.items) s.blocks c.args.block.0 c.self.invariant.0.keeps.inside (λ lt. omega (arith, lt, past, many))))

pub returns : goal.returns
returns c =
    let s = c.self.inside in
    let heads = s.columns.heads.list.items in
    let b = c.args.block.0 in
    let G = view_gone c.self.invariant in
    let D = c.self.invariant.0.keeps.lawful.on_disk_with_all in
    record {
      ok =
          rw (← c.self.view_is) (fine c.ready_set.result (λ numbers set. (choice _ (patches_of heads) G D b (numbers_of numbers.items)).1 set) (chosen_ready heads s.numbers s.blocks s.columns.ends.up.walk.marks _ s.standings s.columns.queue.items s.columns.queue.cap b c.self.invariant.0.keeps c.self.invariant.0.tallies c.ready_set.result
          (c.ready_set.ensures.ok)));
      refused =
          rw (← c.self.view_is) (failed c.ready_set.result (λ f some. ((ready _ (patches_of heads) G D b).1 some.0, some.1)) (chosen_refused heads s.numbers s.blocks s.columns.ends.up.walk.marks _ s.standings s.columns.queue.items s.columns.queue.cap b c.self.invariant.0.keeps c.self.invariant.0.tallies c.ready_set.result
          (c.ready_set.ensures.refused)));
      same = rw (← c.self.view_is, c.let_go.ensures) refl;
    }

pub invariant_of-self : goal.invariant_of-self
invariant_of-self c = rw c.let_go.ensures (with_prepared c.self.invariant.0 tt, unspared c.self.invariant.1)

pub invariant_of-self-2 : goal.invariant_of-self-2
invariant_of-self-2 c = rw c.let_go.ensures (with_prepared c.self.invariant.0 tt, unspared c.self.invariant.1)
