use Rattle.std.proofs.Common.{◌≡◌, ◌∙◌, map, take, get_or, Contains, subst, sym, ap, arith}
use Rattle.std.proofs.lemmas.List.{Elements.Contains-get_or, get_or-map, length-map, take_all, take_more, map_push}
use Rattle.fst_heads.specs.{Heads.patches_of, Lists.{entries_of, entries_on}, declared.lists.Listed.Listed}
use Rattle.fst_heads.proofs.Listing.{listed_at}
use Rattle.fst_walks.specs.{BothEnds.{IsLow, IsLowChange}, Descending.Visits}
use Rattle.fst_levels.specs.{Leveling.level_of, Walks.numbers_met}
use Rattle.fst_levels.proofs.Above.{change_listed, listed_change, change_live}
use Rattle.fst_walks.proofs.{CrossingBack.{off_disk}, Visiting.{visits_next, visits_none, visits_same}}
use Rattle.fst_walks.proofs.way_up.visit_low_changes.Goals.{After-as_slice-list}
use Rattle.fst_walks.proofs.way_up.visit_low_changes.Goals as goal

-- none is lower than the floor
pub returns-then-most-floor-clause-visits : goal.returns-then-most-floor-clause-visits
returns-then-most-floor-clause-visits c =
    let sight = c.args.sight.now in
    let heads = sight.heads.now.list.items in
    visits_none (IsLowChange (patches_of heads) (level_of sight.levels.now.ranks) c.args.most c.args.block) (numbers_met heads c.args.walk.now) (λ m k.
    let high = c.requires.sees.leveled.leveled.change c.args.block m k.0 in
    absurd (omega (arith, high, k.1, c.floor.ensures, c.if-most-floor.true)))

-- the list has the changes of the block that are not on disk
listed : (c : After-as_slice-list) → entries_of c.as_slice-list.result.now ≡ entries_on c.args.block (patches_of c.args.sight.now.heads.now.list.items)
listed c =
    let patches = patches_of c.args.sight.now.heads.now.list.items in
    let b = c.args.block in
    subst (λ ls. entries_of ls ≡ entries_on b patches) (sym c.as_slice-list.ensures.value)
    (ap (λ l. entries_of l.items) (sym c.index-sight-block.is) ∙ listed_at (λ l. entries_of l.items) patches c.args.sight.now.lists.now b c.index-sight-block.result c.requires.block c.index-sight-block.is c.requires.sees.listed)

pub visit_low-requires-clause-live : goal.visit_low-requires-clause-live
visit_low-requires-clause-live c =
    let at = goal.at.visit_low-requires-clause-live c in
    let heads = c.args.sight.now.heads.now.list.items in
    let list = c.as_slice-list.result.now in
    let i = c.loop-listed.listed-index in
    let none : Listed = record { number = 0; span = record { at = 0; len = 0 } } in
    let number = λ (l : Listed). l.number in
    let n = (get_or list i none).number in
    let inside = c.loop-listed-test.true in
    let there = subst (Contains (map number list)) (get_or-map number list i none 0 inside) (Contains-get_or (map number list) i 0 (omega (arith, inside, length-map list number))) in
    off_disk heads c.args.sight.now.heads.now.rising n (change_live (patches_of heads) c.args.block n (listed_change (patches_of heads) list c.args.block n (listed at.After-as_slice-list) there))

pub loop-listed-preserved : goal.loop-listed-preserved
loop-listed-preserved c =
    let heads = c.args.sight.now.heads.now.list.items in
    let L = IsLow (patches_of heads) (level_of c.args.sight.now.levels.now.ranks) c.args.most in
    let list = c.as_slice-list.result.now in
    let i = c.loop-listed.listed-index in
    let none : Listed = record { number = 0; span = record { at = 0; len = 0 } } in
    let number = λ (l : Listed). l.number in
    let n = (get_or list i none).number in
    let more = ap (map number) (take_more list i none c.loop-listed-test.true) ∙ map_push number (take i list) (get_or list i none) in
    record {
      visited = c.visit_low.ensures.visited;
      room = c.visit_low.ensures.room ∙ c.loop-listed.invariant.room;
      visits = rw more (visits_next L L (map number (take i list)) n (numbers_met heads c.args.walk.now) (numbers_met heads c.loop-listed.walk) (numbers_met heads c.visit_low.new.walk) (λ m l. l) (λ l. l) c.loop-listed.invariant.visits c.visit_low.ensures.visits);
    }

pub returns-clause-visits : goal.returns-clause-visits
returns-clause-visits c =
    let heads = c.args.sight.now.heads.now.list.items in
    let patches = patches_of heads in
    let level = level_of c.args.sight.now.levels.now.ranks in
    let L = IsLow patches level c.args.most in
    let b = c.args.block in
    let list = c.as_slice-list.result.now in
    let number = λ (l : Listed). l.number in
    let listed = listed (goal.at.returns-clause-visits c).After-as_slice-list in
    let all = subst (λ ls. Visits (λ n. Contains (map number ls) n × L n) (numbers_met heads c.args.walk.now) (numbers_met heads c.loop-listed.walk)) (take_all c.loop-listed.listed-index list (omega (arith, c.loop-listed-test.false))) c.loop-listed.invariant.visits in
    visits_same (λ n. Contains (map number list) n × L n) (IsLowChange patches level c.args.most b) (numbers_met heads c.args.walk.now) (numbers_met heads c.loop-listed.walk)
    (λ n k. (listed_change patches list b n listed k.0, k.1.1)) (λ n x. (change_listed patches list b n listed x.0, (change_live patches b n x.0, x.1))) all
