use Rattle.std.proofs.lemmas.Grind.{common_steps}
use Rattle.std.proofs.Common.{◌≡◌, ◌<◌, ◌∙◌, get_or, refl, Some, None, ap, arith, subst, sym}
use Rattle.fst_heads.specs.{Heads.patches_of, Nodes.nodes_of, Standings.{NoneHeldBelow, without_changes}, declared.standing.Standing.Standing}
use Rattle.fst_heads.proofs.{Counts.held_counted, Indices.any_default}
use Rattle.fst_levels.proofs.{Resting.{none_there, none_held, least_held}, Seen.lawful_nodes}
use Rattle.fst_graph.proofs.{Flagged.unspared, RememberedLooks.{held as was_held, least_held as least_known}, Tallied.tallies_found}
use Rattle.fst_graph.proofs.Sound.{as_many_standings, its_list, many_lists, view_gone}
use Rattle.fst_graph.proofs.sparse.Sparse.hard_held.Goals as goal
use Rattle.fst_graph.proofs.sparse.Sparse.hard_held.Goals.{After-deref-2}

pub returns-in_default-clause-none : goal.returns-in_default-clause-none
returns-in_default-clause-none c =
    let s = c.self.inside in
    let past = c.in_default.ensures.lookup.3 in
    let many = many_lists c.self.invariant.0 c.deref.result.now c.deref.ensures.value in
    rw (← c.self.view_is) (λ p k. let h = (was_held _ (patches_of s.columns.heads.list.items) (view_gone c.self.invariant) c.self.invariant.0.keeps.lawful.on_disk_with_all c.args.block.0 p).0 k in none_there (patches_of s.columns.heads.list.items) s.blocks c.args.block.0 c.self.invariant.0.keeps.inside (λ lt. omega (arith, lt, past, many)) p h.in_memory)

pub first_held-requires-clause-listed : goal.first_held-requires-clause-listed
first_held-requires-clause-listed c =
    rw c.deref-2.ensures.value
    (its_list c.self.invariant.0 c.deref.result.now c.deref.ensures.value c.args.block.0 c.in-Some.ensures.lookup.3.0 c.in-Some.list.now c.in-Some.ensures.lookup.1)

-- the block is one of those that there are
within : (c : After-deref-2) → c.args.block.0 < c.self.inside.blocks
within c =
    let lt = c.in-Some.ensures.lookup.3.0 in
    let many = many_lists c.self.invariant.0 c.deref.result.now c.deref.ensures.value in
    omega (arith, lt, many)

-- the block stands as is told
told : (c : After-deref-2) → c.at-standing.result ≡ get_or c.self.inside.standings c.args.block.0 c.at-standing.result
told c = c.at-standing.ensures.inside c.at-standing.result (omega (arith, within c, as_many_standings c.self.invariant.0))

pub first_held-requires-clause-held : goal.first_held-requires-clause-held
first_held-requires-clause-held c =
    let b = c.args.block.0 in
    let own = c.at-standing.result in
    let held = ap (λ (s : Standing). s.held) (told c ∙ c.self.invariant.0.tallies.standing.each b own (within c)) in
    omega (arith, held_counted b (nodes_of c.self.inside.columns.heads.list.items), held)

pub first_held-requires-clause-above : goal.first_held-requires-clause-above
first_held-requires-clause-above c =
    let b = c.args.block.0 in
    let own = c.at-standing.result in
    subst (λ (s : Standing). NoneHeldBelow (nodes_of c.self.inside.columns.heads.list.items) b s.held_from) (sym (told c)) (c.self.invariant.0.tallies.standing.lie b own (within c)).held

pub returns-in_default-first_held-clause-none : goal.returns-in_default-first_held-clause-none
returns-in_default-first_held-clause-none c =
    let s = c.self.inside in
    let heads = s.columns.heads.list.items in
    let b = c.args.block.0 in
    let none = none_held heads s.numbers s.blocks s.columns.ends.up.walk.marks _ s.standings s.columns.queue.items s.columns.queue.cap b c.self.invariant.0.keeps c.self.invariant.0.tallies None c.in_default-first_held.ensures.none in
    rw (← c.self.view_is) (λ p k. none p ((was_held _ (patches_of heads) (view_gone c.self.invariant) c.self.invariant.0.keeps.lawful.on_disk_with_all b p).0 k))

pub returns-clause-least : goal.returns-clause-least
returns-clause-least c =
    let s = c.self.inside in
    let heads = s.columns.heads.list.items in
    let b = c.args.block.0 in
    let no = c.in-Some-first_held.no in
    let least = least_held heads s.numbers s.blocks s.columns.ends.up.walk.marks _ s.standings s.columns.queue.items s.columns.queue.cap b c.self.invariant.0.keeps c.self.invariant.0.tallies (Some no) c.in-Some-first_held.ensures.least in
    rw (← c.self.view_is) (least_known _ (patches_of heads) (view_gone c.self.invariant) c.self.invariant.0.keeps.lawful.on_disk_with_all b no.0 least)

pub invariant_of-self-2 : goal.invariant_of-self-2
invariant_of-self-2 c =
    let s = c.self.inside in
    let S = c.self.invariant.0 in
    let b = c.args.block.0 in
    let no = c.in-Some-first_held.no.0 in
    let own = get_or s.standings b without_changes in
    let lt = within (goal.at.invariant_of-self-2 c).After-deref-2 in
    rw c.let_go.ensures (
      record {
        keeps = S.keeps;
        beside = S.beside;
        tallies = rw (c.note_held.ensures without_changes) (tallies_found (nodes_of s.columns.heads.list.items) s.numbers s.blocks b no _ s.standings _ _ own _ (lawful_nodes s.columns.heads.list.items s.numbers S.keeps.lawful) S.tallies lt (any_default s.standings b without_changes own (omega (arith, lt, as_many_standings S))) refl c.in-Some-first_held.ensures.least);
        covered = S.covered;
        along = S.along;
        leveled = S.leveled;
        needing = S.needing;
        given = S.given;
        prepared = tt;
      },
      unspared c.self.invariant.1,
    )

pub note_held-requires : goal.note_held-requires
note_held-requires c = grind (arith, common_steps)
