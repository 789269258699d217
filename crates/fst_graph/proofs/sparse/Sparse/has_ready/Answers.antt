use Rattle.std.proofs.Common.{◌∙◌, inl, inr, sym, ap, subst, arith}
use Rattle.std.proofs.lemmas.Bool.{cases_lt, ltb-true, lt-ltb}
use Rattle.fst_types.specs.Writable.{HasReady}
use Rattle.fst_heads.specs.{Heads.patches_of, Nodes.nodes_of, Standings.without_changes, declared.standing.Standing.Standing}
use Rattle.fst_heads.proofs.AtNumber.{patches_in_nodes}
use Rattle.fst_levels.proofs.{Seen.lawful_nodes}
use Rattle.fst_graph.proofs.{Marking.ready_counted, RememberedLooks.ready, Sound.{as_many_standings, view_gone}}
use Rattle.fst_graph.proofs.sparse.Sparse.has_ready.Goals as goal

pub returns : goal.returns
returns c =
    let s = c.self.inside in
    let S = c.self.invariant.0 in
    let heads = s.columns.heads.list.items in
    let b = c.args.block.0 in
    let G = view_gone c.self.invariant in
    let D = S.keeps.lawful.on_disk_with_all in
    rw (← c.self.view_is) (λ still. elim (cases_lt b s.blocks) [
      | inl inside ↦
          let count = ap (λ (t : Standing). t.ready) (c.at.ensures.inside without_changes (omega (arith, inside, as_many_standings S)) ∙ S.tallies.standing.each b without_changes inside) in
          let k = ready_counted (nodes_of heads) s.numbers s.blocks (lawful_nodes heads s.numbers S.keeps.lawful) S.tallies.settled b without_changes in (
            λ told. (ready _ (patches_of heads) G D b).1 (subst (λ ps. HasReady ps b) (patches_in_nodes heads) (k.0 (omega (arith, ltb-true _ _ told, count)))),
            λ some. lt-ltb _ _ (omega (arith, k.1 (subst (λ ps. HasReady ps b) (sym (patches_in_nodes heads)) ((ready _ (patches_of heads) G D b).0 some)), count)),
          )
      | inr past ↦
          let none = ap (λ (t : Standing). t.ready) (c.at.ensures.outside (omega (arith, past, as_many_standings S))) in (
            λ told. absurd (omega (arith, ltb-true _ _ told, none)),
            λ some.
                let r = (ready _ (patches_of heads) G D b).0 some in
                let lt = S.keeps.inside r.0 b r.1.in_memory.head r.1.in_memory.change in
                absurd (omega (arith, lt, past)),
          )
    ])
