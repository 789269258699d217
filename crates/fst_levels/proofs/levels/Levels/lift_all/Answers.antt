use Rattle.std.proofs.{Common.{◌≡◌, ◌∙◌, ◌<◌, ◌++◌, ◌∷◌, [], ap, arith, get_or, length, subst, sym, take}, lemmas.List.take_more}
use Rattle.fst_heads.specs.{Heads.patches_of, Indices.HasIndex}
use Rattle.fst_levels.specs.{Lifting.IsLifted, Walks.{number_at, numbers_met}}
use Rattle.fst_levels.proofs.{Raising.{hard_told, lifted_more}, MetNumbers.{index_at, long_met, met_at}}
use Rattle.fst_levels.proofs.levels.Levels.lift_all.Goals as goal

pub lift_one-requires-clause-aligned : goal.lift_one-requires-clause-aligned
lift_one-requires-clause-aligned c = c.loop-at.invariant.numbers ∙ c.requires.aligned

pub lift_one-requires-clause-inside : goal.lift_one-requires-clause-inside
lift_one-requires-clause-inside c = rw c.loop-at.invariant.long c.requires.inside

pub loop-at-preserved : goal.loop-at-preserved
loop-at-preserved c =
    let heads = c.args.heads.now.list.items in
    let walk = c.args.walk.now in
    let at = c.loop-at.at in
    let n = number_at heads c.index_at.result in
    let met = numbers_met heads walk in
    let lt = c.loop-at-test.true in
    let inside : at < length walk.met = omega (arith, lt, c.len-at-end.ensures.long) in
    let index : HasIndex heads n c.index_at.result = index_at heads c.index_at.result (omega (arith, c.index_at.ensures.inside, c.requires.long)) in
    let here : get_or met at 0 ≡ n = met_at heads walk at inside ∙ ap (number_at heads) (sym c.index_at.ensures.index) in
    subst (λ ms. IsLifted (patches_of heads) ms c.args.to c.args.self.now c.lift_one.new.self) (sym (take_more met at 0 (omega (arith, inside, long_met heads walk)) ∙ ap (λ m. take at met ++ m ∷ []) here))
    (lifted_more (patches_of heads) (take at met) n c.args.to c.args.self.now c.loop-at.self c.lift_one.new.self (hard_told heads c.args.heads.now.rising n c.index_at.result index) c.loop-at.invariant c.lift_one.ensures)
