use Rattle.std.proofs.{Common.{◌≡◌, ◌≤◌, ◌∙◌, filter, count_by, length, sym, ap, subst, refl, arith}, lemmas.{List.length-map, List.Sums.length-filter}}
use Rattle.fst_types.specs.{Facts.SparseAreLawful, Tests.{is_at, is_live}}
use Rattle.fst_heads.specs.{Heads.{patch_of, patches_of}, Nodes.{is_forgotten_in, nodes_of}}
use Rattle.fst_heads.proofs.{AtNumber.patches_in_nodes, Beside.beside_dropped, Covering.covered_left, Flagged.{forgotten_dropped, landed_dropped, none_dropped}, Forgetting.{counted, keeps_dropped}, Placed.patches_dropped}
use Rattle.fst_levels.proofs.{RanksLeft.left_is_leveled, Seen.{seen, lawful_nodes}}
use Rattle.fst_graph.specs.Sound.{remembered_of}
use Rattle.fst_graph.proofs.{Forgets.{landed_bound, landed_long}, NeedsNow.needing_left, Ranks.leveled_as, Remembered.remembered_all, RememberedLooks.live_remembered, Sound.view_gone, Tallied.tallies_dropped, sparse.Sparse.drop_landed.Goals.After-forget}
use Rattle.fst_types.specs.declared.place.Place.TheVariants as place
use Rattle.fst_graph.proofs.sparse.Sparse.drop_landed.Goals as goal

-- those that are left, and how many they are
left : (c : After-forget) → patches_of c.forget.new.heads.list.items ≡ filter is_live (patches_of c.self.inside.columns.heads.list.items)
left c =
    let heads = c.self.inside.columns.heads.list.items in
    seen c.forget.new.heads.list.items _ c.forget.ensures.heads ∙ (patches_dropped (nodes_of heads) ∙ ap (filter is_live) (patches_in_nodes heads))

left_long : (c : After-forget) → c.forget.new.heads.list.len ≡ length (filter is_live (patches_of c.self.inside.columns.heads.list.items))
left_long c = let live = ap length (left c) in omega (arith, live, length-map c.forget.new.heads.list.items patch_of, c.forget.new.heads.list.ok.0)

pub overflow_cast-result : goal.overflow_cast-result
overflow_cast-result c = omega (arith, landed_bound c.self.invariant, c.len-many.ensures, c.self.inside.landed.ok.0)

-- no more are left than there were
fewer : (c : After-forget) → c.forget.new.heads.list.len ≤ length c.self.inside.columns.ends.up.walk.marks
fewer c = omega (arith, counted (patches_of c.self.inside.columns.heads.list.items), left_long c, c.self.invariant.0.keeps.marked)

pub shrink-requires : goal.shrink-requires
shrink-requires c =
    let few = fewer (goal.at.shrink-requires c).After-forget in
    record { up = omega (arith, few, c.len.ensures); down = omega (arith, few, c.len.ensures, c.self.invariant.0.along.marks) }

-- nothing that is left is forgotten
none_gone : (c : After-forget) → remembered_of c.forget.new.heads.list.items ≡ patches_of c.forget.new.heads.list.items
none_gone c =
    let heads = c.self.inside.columns.heads.list.items in
    let new = c.forget.new.heads.list.items in
    remembered_all (is_forgotten_in (nodes_of new)) (patches_of new)
    (λ p i. ap (λ ns. is_forgotten_in ns p.number) c.forget.ensures.heads ∙ forgotten_dropped (nodes_of heads) c.self.inside.landed.items c.self.inside.blocks c.self.invariant.0.tallies.settled c.self.invariant.1.told p.number)

pub invariant_of-self : goal.invariant_of-self
invariant_of-self c =
    let at = (goal.at.invariant_of-self c).After-forget in
    let long : length c.shrink.new.self.up.walk.marks ≡ length (filter is_live (patches_of c.self.inside.columns.heads.list.items)) = omega (arith, left_long at, c.len.ensures, c.shrink.ensures.marks.0) in
    let heads = c.self.inside.columns.heads.list.items in
    let n = c.self.inside.numbers in
    let blocks = c.self.inside.blocks in
    let S = c.self.invariant.0 in
    let R = c.self.invariant.1 in
    let kept = keeps_dropped (patches_of heads) n blocks c.self.inside.columns.ends.up.walk.marks S.keeps c.shrink.new.self.up.walk.marks long in
    let lawful = subst (λ ps. SparseAreLawful ps n) (sym (patches_dropped (nodes_of heads) ∙ ap (filter is_live) (patches_in_nodes heads))) kept.lawful in (
      record {
        keeps = rw (left at) kept;
        beside = rw (left at, c.shrink.ensures.crossed.0) (beside_dropped (patches_of heads) blocks c.self.inside.live c.self.inside.columns.ends.up.crossed.items S.beside);
        tallies = rw c.forget.ensures.heads (tallies_dropped (nodes_of heads) n blocks _ _ _ _ (lawful_nodes heads n S.keeps.lawful) lawful S.tallies);
        covered = rw (left at) (covered_left (patches_of heads) S.keeps.lawful.on_disk_with_all blocks c.self.inside.covers.items S.covered);
        along = record { marks = c.shrink.ensures.marks.1 ∙ sym c.shrink.ensures.marks.0; places = rw (c.shrink.ensures.crossed.0, c.shrink.ensures.crossed.1) S.along.places };
        leveled = c.ease.ensures.leveled _ _ (rw (left at) (leveled_as c.forget.ensures.ranks c.forget.ensures.rest.0 (left_is_leveled (patches_of heads) S.keeps.lawful.one_place_each.rising S.keeps.lawful.on_disk_with_all blocks c.self.inside.columns.levels S.leveled)));
        needing = rw (left at) (needing_left (patches_of heads) S.keeps.lawful.one_place_each.rising S.keeps.lawful.on_disk_with_all kept.lawful.one_place_each.rising kept.lawful.on_disk_with_all S.needing);
        given = S.given;
        prepared = rw c.let_go.ensures tt;
      },
      record {
        counted = rw c.forget.ensures.heads (sym (none_dropped (nodes_of heads) c.self.inside.landed.items blocks S.tallies.settled R.told));
        few = omega (arith, left_long at, length-filter is_live (patches_of heads), S.beside.counted, S.beside.few, c.forget.new.heads.list.ok.0);
        told = rw (c.clear.ensures.items, c.forget.ensures.heads) (landed_dropped (nodes_of heads) c.self.inside.landed.items blocks S.tallies.settled R.told);
        shelf = omega (arith, left_long at, counted (patches_of heads), length-map heads patch_of, c.forget.new.heads.list.ok.0, R.shelf, c.clear.ensures.capacity);
        spare = rw c.let_go.ensures tt;
      },
    )

pub returns : goal.returns
returns c =
    let heads = c.self.inside.columns.heads.list.items in
    let at = (goal.at.returns c).After-forget in
    let count : c.len-many.result ≡ count_by (λ p. is_at p.place place.Disk) (remembered_of heads) = omega (arith, landed_long c.self.invariant, c.len-many.ensures, c.self.inside.landed.ok.0) in
    rw (← c.self.view_is, c.let_go.ensures)
    (record {
      row = record { counted = count; kept = none_gone at ∙ (left at ∙ sym (live_remembered (is_forgotten_in (nodes_of heads)) (patches_of heads) (view_gone c.self.invariant))) };
      numbers = refl;
      blocks = refl;
      groups = refl;
      prepared = refl;
    })

pub forget-requires : goal.forget-requires
forget-requires c =
    let heads = c.self.inside.columns.heads.list.items in record {
      aligned = c.self.invariant.0.leveled.aligned;
      live = c.self.invariant.0.beside.counted;
    }
