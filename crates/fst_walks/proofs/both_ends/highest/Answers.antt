use Rattle.std.proofs.Common.{◌≤◌, ◌<◌, length, get_or, subst, ap, ◌∙◌, inl, inr, arith}
use Rattle.std.proofs.lemmas.Bool.{cases_eq}
use Rattle.fst_heads.proofs.Indices.{any_default}
use Rattle.fst_levels.specs.{Leveling.level_of, Walks.numbers_met}
use Rattle.fst_levels.proofs.{Highest.{max_first, max_second}, Ranked.{no_rank, rank_level}, MetNumbers.{index_met, long_met}}
use Rattle.fst_walks.proofs.both_ends.highest.Goals as goal

pub loop-at-preserved : goal.loop-at-preserved
loop-at-preserved c j up =
    let sight = c.args.sight.now in
    let heads = sight.heads.now.list.items in
    let ranks = sight.levels.now.ranks in
    let walk = c.args.walk.now in
    let met = numbers_met heads walk in
    let at = c.loop-at.at in
    let first = max_first c.loop-at.most c.level.result in
    let other = max_second c.loop-at.most c.level.result in
    elim (cases_eq j at) [
      | inl same ↦
          let lt : at < length walk.met = omega (arith, c.loop-at-test.true, c.len-at-end.ensures.long) in
          let index = index_met heads walk at c.index_at.result c.requires.visited.long lt c.index_at.ensures.index c.index_at.ensures.inside in
          let here = c.level.ensures no_rank ∙ rank_level heads ranks c.args.sight.now.heads.now.rising c.requires.sees.leveled.aligned (get_or met at 0) c.index_at.result index no_rank in
          let told = ap (λ k. level_of ranks (get_or met k 0)) same in
          omega (arith, told, here, other, c.max-most.ensures)
      | inr before ↦ let low = c.loop-at.invariant j (omega (arith, up, before)) in omega (arith, low, first, c.max-most.ensures)
    ]

pub returns : goal.returns
returns c n here =
    let sight = c.args.sight.now in
    let heads = sight.heads.now.list.items in
    let walk = c.args.walk.now in
    let met = numbers_met heads walk in
    let same = any_default met here.0 0 n here.1 ∙ here.2 in
    let low = c.loop-at.invariant here.0 (omega (arith, here.1, long_met heads walk, c.loop-at-test.false, c.len-at-end.ensures.long)) in
    subst (λ k. level_of sight.levels.now.ranks k ≤ c.loop-at.most) same low
