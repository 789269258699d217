use Rattle.std.proofs.Common.{◌∙◌, ◌≤◌, length, arith}
use Rattle.fst_heads.specs.{Grading.IsHardNumber, Heads.patches_of, Indices.PassesAt}
use Rattle.fst_walks.specs.BothEnds.{IsLow, StepsLow}
use Rattle.fst_levels.specs.{Leveling.level_of, Walks.numbers_met, WayBack.Crosses}
use Rattle.fst_types.specs.Dependencies.{DirectlyOn}
use Rattle.fst_walks.proofs.{Ascended.climbing_all, Stepping.walking_step}
use Rattle.fst_levels.proofs.MetNumbers.{long_met}
use Rattle.fst_heads.specs.declared.test.Test.TheVariants as test
use Rattle.fst_walks.proofs.lift.climb_low.Goals as goal

pub loop-at-preserved : goal.loop-at-preserved
loop-at-preserved c =
    let heads = c.args.sight.now.heads.now.list.items in
    let patches = patches_of heads in
    let level = level_of c.args.sight.now.levels.now.ranks in
    let most = c.args.most in
    record {
      visited = c.step_up.ensures.visited;
      room = c.step_up.ensures.room ∙ c.loop-at.invariant.room;
      walking = walking_step (λ p q. DirectlyOn patches q p × IsLow patches level most q) (IsHardNumber patches) (λ b q. PassesAt (test.LiveOn b) patches q × (level q ≤ most))
          (λ old p q. Crosses patches old p q × (level q ≤ most))
          (λ old p q b hard fresh to. (record { block = b; hard = hard; fresh = fresh; change = to.0 }, to.1))
          (λ old p q k. (k.0.block, k.0.hard, k.0.fresh, (k.0.change, k.1)))
          c.args.crossed.now (numbers_met heads c.args.walk.now) c.loop-at.at c.loop-at.crossed c.step_up.new.crossed (numbers_met heads c.loop-at.walk) (numbers_met heads c.step_up.new.walk)
          (omega (arith, c.loop-at-test.true, c.len.ensures.long, long_met heads c.loop-at.walk)) c.loop-at.invariant.walking c.step_up.ensures.visits c.step_up.ensures.crossed.kept c.step_up.ensures.crossed.only;
    }

pub returns-clause-met : goal.returns-clause-met
returns-clause-met c t n =
    let heads = c.args.sight.now.heads.now.list.items in
    let walking = c.loop-at.invariant.walking in
    let past : length (numbers_met heads c.loop-at.walk) ≤ c.loop-at.at = omega (arith, c.loop-at-test.false, c.len.ensures.long, long_met heads c.loop-at.walk) in
    climbing_all (StepsLow (patches_of heads) (level_of c.args.sight.now.levels.now.ranks) c.args.most c.args.crossed.now) (numbers_met heads c.args.walk.now) c.loop-at.at (numbers_met heads c.loop-at.walk) past walking.climbing n
