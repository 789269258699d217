use Rattle.std.proofs.Common.{◌∙◌, sym, arith}
use Rattle.std.proofs.lemmas.Option.{IfSome_then}
use Rattle.fst_heads.specs.{Grading.LeadsNowhere, Heads.patches_of}
use Rattle.fst_heads.proofs.Listing.{rising_patches}
use Rattle.fst_levels.specs.{Leveling.{floor_of, hard_over_of, level_of}, Needing.needs_of, Walks.numbers_met}
use Rattle.fst_levels.proofs.ComesBack.{off_not_on}
use Rattle.fst_walks.proofs.{Meeting.{comes_back, comes_hard}, Told.{told_back, told_hard}, Visiting.none_told}
use Rattle.fst_walks.proofs.below.grade_below.Goals as goal

pub descend-requires-clause-away : goal.descend-requires-clause-away
descend-requires-clause-away c n top x =
    let heads = c.args.sight.now.heads.now.list.items in
    off_not_on (patches_of heads) (rising_patches heads c.args.sight.now.heads.now.rising) c.args.block n (c.visit_first_away-looked.ensures.only n top).away x

pub returns-then-is_some-clause-told : goal.returns-then-is_some-clause-told
returns-then-is_some-clause-told c =
    let sight = c.args.sight.now in
    let heads = sight.heads.now.list.items in
    let sees = c.requires.sees in
    let crossed = c.cross_only.new.self.crossed.items in
    let shown = c.cross_only.ensures.shown in
    told_back (patches_of heads) (rising_patches heads c.args.sight.now.heads.now.rising) sees.disk c.args.block c.args.row.now c.soft.result c.in_ok-met.met c.soft.ensures.grade c.soft.ensures.end (sym c.is_some.ensures ∙ c.if-is_some.true)
    (IfSome_then c.in_ok-met.met c.in_ok-met.ensures.met (comes_back heads c.args.sight.now.heads.now.rising sees.disk sees.hard sees.flights (level_of sight.levels.now.ranks) (floor_of sight.levels.now.floors) sees.leveled.leveled (needs_of sight.needs.now.lists) sees.needing.needed
    (hard_over_of sight.levels.now.ranks) sees.leveled.overs c.args.block c.floor-least.result (omega (arith, c.floor-least.ensures)) c.args.row.now crossed crossed shown shown
    (numbers_met heads c.visit_first_away-looked.new.walk) c.visit_first_away-looked.ensures.only))

pub returns-then-looked-few-clause-told : goal.returns-then-looked-few-clause-told
returns-then-looked-few-clause-told c =
    let sight = c.args.sight.now in
    let heads = sight.heads.now.list.items in
    let sees = c.requires.sees in
    let crossed = c.cross_only.new.self.crossed.items in
    let shown = c.cross_only.ensures.shown in
    told_hard (patches_of heads) c.args.block c.args.row.now (LeadsNowhere (patches_of heads) c.args.block c.args.row.now) c.hard_after.result c.hard_after.ensures.grade c.hard_after.ensures.end
    (comes_hard heads c.args.sight.now.heads.now.rising sees.disk sees.hard sees.flights (level_of sight.levels.now.ranks) (floor_of sight.levels.now.floors) sees.leveled.leveled (needs_of sight.needs.now.lists) sees.needing.needed
    (hard_over_of sight.levels.now.ranks) sees.leveled.overs c.args.block c.floor-least.result (omega (arith, c.floor-least.ensures)) c.args.row.now crossed crossed shown shown
    (numbers_met heads c.visit_first_away-looked.new.walk) c.visit_first_away-looked.ensures.only (c.visit_first_away-looked.ensures.all (omega (arith, c.if-looked-few.true)))
    (none_told c.in_ok-met.met c.in_ok-met.ensures.none (sym c.is_some.ensures ∙ c.if-is_some.false)))
