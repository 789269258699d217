use Rattle.std.proofs.Common.{◌≡◌, ◌∙◌, ◌<◌, ◌⊎◌, arith, get_or, subst, rules}
use Rattle.fst_heads.specs.Heads.{patches_of}
use Rattle.fst_heads.proofs.{Listing.rising_patches, Indices.any_default}
use Rattle.fst_levels.specs.{Leveling.{floor_of, level_of}, WayBack.IsUnderHard}
use Rattle.fst_levels.proofs.Leveled.{below_floor}
use Rattle.fst_levels.proofs.shortcuts.stays_below.Goals as goal

pub returns : goal.returns
returns c told =
    let sees = c.requires.sees in
    let patches = patches_of c.args.sight.now.heads.now.list.items in
    let b = c.args.block in
    let row = c.args.row.now in
    let level = level_of c.args.sight.now.levels.now.ranks in
    let floor = floor_of c.args.sight.now.levels.now.floors in
    below_floor patches level floor sees.leveled.leveled (rising_patches c.args.sight.now.heads.now.list.items c.args.sight.now.heads.now.rising) sees.disk sees.hard b row
    (λ n k live.
    let here : get_or row k.0 0 ≡ n = any_default row k.0 0 n k.1 ∙ k.2 in
    subst (λ m. IsUnderHard patches b m ⊎ (level m < floor b)) here (c.loop-number.invariant k.0 (omega (arith, k.1, c.loop-number-test.false))))

pub loop-number-preserved : goal.loop-number-preserved
loop-number-preserved c = search rules
