use Rattle.std.proofs.Common.{ap, arith, get_or, refl, vec_capacity, vec_len}
use Rattle.std.proofs.lemmas.List.{get_or-map}
use Rattle.fst_heads.proofs.Indices.{any_default}
use Rattle.fst_levels.proofs.Shelves.{shelved_push}
use Rattle.fst_graph.proofs.sparse.making.enlist.Goals as goal

pub push_reserved-requires : goal.push_reserved-requires
push_reserved-requires c =
    let list = c.index_mut.result.now in
    let there = c.index_mut.ensures.value in
    let len = get_or-map (λ l. vec_len l) c.args.lists.now.items c.args.block list 0 c.requires.list in
    let capacity = get_or-map (λ l. vec_capacity l) c.args.lists.now.items c.args.block list 0 c.requires.list in
    omega (arith, c.requires.room, len, capacity, ap (λ l. vec_len l) there, ap (λ l. vec_capacity l) there)

pub enter-requires : goal.enter-requires
enter-requires c = record {
  inside = c.requires.standing;
  ready = λ d. let k = c.requires.few (get_or c.args.standings.now c.args.block d) (any_default c.args.standings.now c.args.block d _ c.requires.standing) in k.0;
  held = λ d. let k = c.requires.few (get_or c.args.standings.now c.args.block d) (any_default c.args.standings.now c.args.block d _ c.requires.standing) in k.1;
}

pub returns-clause-listed : goal.returns-clause-listed
returns-clause-listed c = shelved_push c.args.lists.now.items c.args.block c.index_mut.result.now c.push_reserved.new.self c.args.listed c.requires.list c.index_mut.ensures.value c.push_reserved.ensures.items

pub returns-clause-entered : goal.returns-clause-entered
returns-clause-entered c d = rw (c.enter.ensures d, c.is_of_block-is_ready.ensures) refl
