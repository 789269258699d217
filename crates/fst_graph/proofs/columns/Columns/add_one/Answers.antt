use Rattle.std.proofs.Common.{◌≡◌, ◌∙◌, arith, ap, length, subst}
use Rattle.fst_heads.specs.{Heads.{patches_of}, Nodes.nodes_of}
use Rattle.fst_levels.specs.{Ancestors.GoesUnder, Leveling.IsLeveled}
use Rattle.fst_graph.specs.Fresh.{IsRoomier}
use Rattle.fst_levels.proofs.Seen.{same_patches}
use Rattle.fst_graph.proofs.{Made.more_after, Ranks.leveled_as}
use Rattle.fst_graph.proofs.columns.Columns.add_one.Goals.{After-reserve_above}
use Rattle.fst_graph.proofs.columns.Columns.add_one.Goals as goal

-- the nodes are as they were
still : (c : After-reserve_above) → nodes_of c.reserve_above.new.heads.list.items ≡ nodes_of c.args.self.now.heads.list.items
still c = c.reserve_above.ensures.nodes ∙ c.reserve.ensures.roomier.nodes

-- the levels are over the patches still
leveled : (c : After-reserve_above) → IsLeveled (patches_of c.reserve_above.new.heads.list.items) (length c.args.self.now.levels.floors) c.reserve.new.self.levels
leveled c = rw (same_patches c.reserve_above.new.heads.list.items c.args.self.now.heads.list.items (still c)) (leveled_as c.reserve.ensures.roomier.ranks c.reserve.ensures.roomier.floors c.requires.leveled)

pub put_down-requires-clause-newest : goal.put_down-requires-clause-newest
put_down-requires-clause-newest c =
    let at = (goal.at.put_down-requires-clause-newest c).After-reserve_above in
    record { heads = rw (same_patches c.reserve_above.new.heads.list.items c.args.self.now.heads.list.items (still at)) c.requires.newest.heads; ranks = rw c.reserve.ensures.roomier.ranks c.requires.newest.ranks }

pub put_down-requires-clause-few : goal.put_down-requires-clause-few
put_down-requires-clause-few c =
    let at = (goal.at.put_down-requires-clause-few c).After-reserve_above in
    rw (still at) c.requires.few

pub returns-clause-added : goal.returns-clause-added
returns-clause-added c =
    let R = c.reserve.ensures.roomier in
    let at = (goal.at.returns-clause-added c).After-reserve_above in
    let wide = c.in_ok-reserve.ensures.queue in
    let roomier : IsRoomier c.args.self.now (record c.reserve.new.self { heads = c.reserve_above.new.heads }) =
    record { nodes = still at; marks = R.marks; crossed = R.crossed; ranks = R.ranks; floors = R.floors; waiting = R.waiting; wide = R.wide } in
    record {
      level = c.level_over-level.result;
      ancestry = c.ancestry_over-ancestry.result;
      under = subst (λ ps. GoesUnder ps c.args.fresh.number c.args.fresh.dependencies.items c.ancestry_over-ancestry.result) (same_patches c.reserve_above.new.heads.list.items c.args.self.now.heads.list.items (still at)) (rw (← c.as_slice-row.ensures) (c.ancestry_over-ancestry.ensures _ _ (leveled at) c.requires.given));
      head = more_after roomier c.put_down.ensures.put;
      over = rw (← R.ranks) c.level_over-level.ensures.over;
      most = omega arith;
      top = c.level_over-level.ensures.top;
      free = omega (arith, wide, c.put_down.ensures.put.wide, ap length c.reserve.ensures.same, c.args.self.now.heads.list.ok.0, c.reserve.new.self.heads.list.ok.0);
    }
