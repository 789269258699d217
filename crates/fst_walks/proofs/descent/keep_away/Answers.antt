use Rattle.std.proofs.Common.{◌∙◌, ap, filter}
use Rattle.fst_levels.specs.Walks.{passes_in}
use Rattle.fst_heads.specs.declared.test.Test.TheVariants as test
use Rattle.fst_walks.proofs.Away.{kept_numbers}
use Rattle.fst_walks.proofs.descent.keep_away.Goals as goal

pub returns-clause-visited : goal.returns-clause-visited
returns-clause-visited c =
    let v = c.requires.visited in
    let kept = kept_numbers (test.LiveOff c.args.block) c.args.sight.now.heads.now.list.items c.args.sight.now.heads.now.rising c.args.walk.now c.keep.new.self v.long c.keep.ensures.inside (c.keep.ensures.kept ∙ ap (λ hs. filter (passes_in (test.LiveOff c.args.block) hs) c.args.walk.now.met) c.deref.ensures.value) in
    record { long = c.keep.ensures.long ∙ v.long; live = λ n m. v.live n ((kept n).0 m).0 }

pub returns-clause-kept : goal.returns-clause-kept
returns-clause-kept c = kept_numbers (test.LiveOff c.args.block) c.args.sight.now.heads.now.list.items c.args.sight.now.heads.now.rising c.args.walk.now c.keep.new.self c.requires.visited.long c.keep.ensures.inside (c.keep.ensures.kept ∙ ap (λ hs. filter (passes_in (test.LiveOff c.args.block) hs) c.args.walk.now.met) c.deref.ensures.value)
