use Rattle.std.proofs.{Common.{◌≡◌, ◌∙◌, map, filter, count_by, length, refl, sym, ap, arith}, lemmas.List.length-map}
use Rattle.fst_types.specs.Tests.{is_at, is_live}
use Rattle.fst_heads.specs.{Heads.{patch_of, patches_of}, Landed.flags, Nodes.{is_forgotten_in, nodes_of}}
use Rattle.fst_heads.proofs.{AtNumber.patches_in_nodes, Flagged.{flagged_left, forgotten_next, landed_flagged, patches_flagged}}
use Rattle.fst_levels.proofs.Seen.{seen, lawful_nodes}
use Rattle.fst_graph.specs.{Remembered.remembered, Sound.remembered_of}
use Rattle.fst_graph.proofs.{Flagged.rising_nodes, Forgets.{landed_bound, landed_long, tallies_marked}, RememberedLooks.live_remembered, Sound.{rising_sound, view_gone}}
use Rattle.fst_graph.proofs.sparse.Sparse.mark_landed.Goals.{After-flag_all}
use Rattle.fst_types.specs.declared.place.Place.TheVariants as place
use Rattle.fst_graph.proofs.sparse.Sparse.mark_landed.Goals as goal

pub overflow_cast-result : goal.overflow_cast-result
overflow_cast-result c = omega (arith, landed_bound c.self.invariant, c.len-many.ensures, c.self.inside.landed.ok.0)

-- the heads with the marks, and their patches
nodes_now : (c : After-flag_all) → nodes_of c.flag_all.new.heads.list.items ≡ map (flags c.self.inside.landed.items) (nodes_of c.self.inside.columns.heads.list.items)
nodes_now c = c.flag_all.ensures.nodes ∙ ap (λ row. map (flags row) (nodes_of c.self.inside.columns.heads.list.items)) c.deref.ensures.value

patches_now : (c : After-flag_all) → patches_of c.flag_all.new.heads.list.items ≡ patches_of c.self.inside.columns.heads.list.items
patches_now c = seen c.flag_all.new.heads.list.items _ (nodes_now c) ∙ (patches_flagged (nodes_of c.self.inside.columns.heads.list.items) c.self.inside.landed.items ∙ patches_in_nodes c.self.inside.columns.heads.list.items)

still_long : (c : After-flag_all) → length c.flag_all.new.heads.list.items ≡ length c.self.inside.columns.heads.list.items
still_long c = omega (arith, ap length (patches_now c), length-map c.flag_all.new.heads.list.items patch_of, length-map c.self.inside.columns.heads.list.items patch_of)

pub invariant_of-self : goal.invariant_of-self
invariant_of-self c =
    let at = (goal.at.invariant_of-self c).After-flag_all in
    let heads = c.self.inside.columns.heads.list.items in
    let n = c.self.inside.numbers in
    let S = c.self.invariant.0 in
    let R = c.self.invariant.1 in
    let rising = rising_nodes heads (rising_sound S) in
    let many = c.len-many.ensures in
    let same = patches_now at in (
      record {
        keeps = rw same S.keeps;
        beside = rw same S.beside;
        tallies = rw (nodes_now at) (tallies_marked c.self.inside.landed.items (nodes_of heads) n c.self.inside.blocks _ _ _ _ (lawful_nodes heads n S.keeps.lawful) S.tallies);
        covered = rw same S.covered;
        along = S.along;
        leveled = c.ease.ensures.leveled _ _ (rw same S.leveled);
        needing = rw same S.needing;
        given = S.given;
        prepared = rw c.let_go.ensures tt;
      },
      record {
        counted = omega (arith, ap (count_by (λ x. x.forgotten)) (nodes_now at), forgotten_next (nodes_of heads) c.self.inside.landed.items rising R.told, R.counted, many, c.self.inside.landed.ok.0);
        few = omega (arith, still_long at, R.few);
        told = rw (c.clear.ensures.items, nodes_now at) (landed_flagged (nodes_of heads) c.self.inside.landed.items rising R.told);
        shelf = omega (arith, still_long at, R.shelf, c.clear.ensures.capacity);
        spare = rw c.let_go.ensures tt;
      },
    )

pub returns : goal.returns
returns c =
    let at = (goal.at.returns c).After-flag_all in
    let heads = c.self.inside.columns.heads.list.items in
    let nodes = nodes_of heads in
    let row = c.self.inside.landed.items in
    let S = c.self.invariant.0 in
    let count : c.len-many.result ≡ count_by (λ p. is_at p.place place.Disk) (remembered_of heads) = omega (arith, landed_long c.self.invariant, c.len-many.ensures, c.self.inside.landed.ok.0) in
    let left : remembered_of c.flag_all.new.heads.list.items ≡ filter is_live (patches_of heads) =
    ap (λ ns. remembered (is_forgotten_in ns) (patches_of c.flag_all.new.heads.list.items)) (nodes_now at)
    ∙ (ap (remembered (is_forgotten_in (map (flags row) nodes))) (patches_now at ∙ sym (patches_in_nodes heads))
    ∙ (flagged_left nodes row (rising_nodes heads (rising_sound S)) c.self.invariant.1.told c.self.inside.blocks S.tallies.settled ∙ ap (filter is_live) (patches_in_nodes heads))) in
    rw (← c.self.view_is, c.let_go.ensures)
    (record { row = record { counted = count; kept = left ∙ sym (live_remembered (is_forgotten_in nodes) (patches_of heads) (view_gone c.self.invariant)) }; numbers = refl; blocks = refl; groups = refl; prepared = refl })
