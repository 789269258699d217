use Rattle.std.proofs.Common.{◌∙◌, sym, arith}
use Rattle.std.proofs.lemmas.Option.{IfSome_then}
use Rattle.fst_heads.specs.Heads.{patches_of}
use Rattle.fst_heads.proofs.Listing.{rising_patches}
use Rattle.fst_levels.specs.{Leveling.{floor_of, hard_over_of, level_of}, Needing.needs_of, Walks.numbers_met}
use Rattle.fst_walks.proofs.{Meeting.comes_back, Told.told_back}
use Rattle.fst_walks.proofs.skim.grade_skimmed.Goals as goal

pub returns-then-is_some-clause-told : goal.returns-then-is_some-clause-told
returns-then-is_some-clause-told c =
    let sight = c.args.sight.now in
    let heads = sight.heads.now.list.items in
    let sees = c.requires.sees in
    let crossed = c.cross_only.new.self.crossed.items in
    let shown = c.cross_only.ensures.shown in
    told_back (patches_of heads) (rising_patches heads sight.heads.now.rising) sees.disk c.args.block c.args.row.now c.soft.result c.skim-met.result c.soft.ensures.grade c.soft.ensures.end (sym c.is_some.ensures ∙ c.if-is_some.true)
    (IfSome_then c.skim-met.result c.skim-met.ensures.met (comes_back heads sight.heads.now.rising sees.disk sees.hard sees.flights (level_of sight.levels.now.ranks) (floor_of sight.levels.now.floors) sees.leveled.leveled (needs_of sight.needs.now.lists) sees.needing.needed
    (hard_over_of sight.levels.now.ranks) sees.leveled.overs c.args.block c.floor-least.result (omega (arith, c.floor-least.ensures)) c.args.row.now crossed crossed shown shown
    (numbers_met heads c.visit_first_away.new.walk) c.visit_first_away.ensures.only))
