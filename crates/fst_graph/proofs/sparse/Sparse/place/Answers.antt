use Rattle.std.proofs.Common.{subst}
use Rattle.fst_heads.specs.Indices.{HasIndex}
use Rattle.fst_heads.proofs.Indices.{patch_at, none_index, index_in, patch_index}
use Rattle.fst_graph.proofs.{PlaceOf.{place_found, place_lost}, RememberedLooks.place_remembered, Sound.{view_gone}}
use Rattle.fst_graph.proofs.sparse.Sparse.place.Goals as goal

pub find-requires : goal.find-requires
find-requires c = record { aligned = c.self.invariant.0.leveled.aligned }

pub returns-in-Some : goal.returns-in-Some
returns-in-Some c =
    let heads = c.self.inside.columns.heads.list.items in
    let d = c.index.result.now in
    let index = c.in-Some.ensures.found in
    rw (← c.self.view_is, c.index.ensures, place_remembered _ _ (view_gone c.self.invariant) c.self.inside.numbers c.args.no.0)
    (place_found _ c.self.inside.numbers c.args.no.0 _ c.self.invariant.0.keeps.lawful.one_place_each.rising (patch_at heads c.in-Some.index d index.0) (index.1 d) (c.is_given.ensures.0 c.if-not-is_given.false))

pub returns-in-None : goal.returns-in-None
returns-in-None c =
    let heads = c.self.inside.columns.heads.list.items in
    let none = c.in-None.ensures.none in
    rw (← c.self.view_is, place_remembered _ _ (view_gone c.self.invariant) c.self.inside.numbers c.args.no.0)
    (place_lost _ c.self.inside.numbers c.args.no.0 (λ p h e. let t = index_in heads p h in none_index heads c.args.no.0 t.0 none (subst (λ m. HasIndex heads m t.0) e (patch_index heads p t.0 t.1 t.2)))
    (c.is_given.ensures.0 c.if-not-is_given.false))
