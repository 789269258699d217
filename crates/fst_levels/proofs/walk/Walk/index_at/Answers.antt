use Rattle.std.proofs.Common.{◌<◌, length, Contains, sym, subst}
use Rattle.std.proofs.lemmas.List.Elements.{Contains-get_or}
use Rattle.fst_levels.specs.Walks.{Trail}
use Rattle.fst_levels.proofs.Trails.{met_inside}
use Rattle.fst_levels.proofs.walk.Walk.index_at.Goals as goal

pub returns-clause-inside : goal.returns-clause-inside
returns-clause-inside c =
    let met = c.self.inside.met.items in
    let lt = subst (λ (t : Trail). c.args.at < length t.met) (sym c.self.view_is) c.requires in
    let here = subst (Contains met) (sym c.index.ensures) (Contains-get_or met c.args.at c.index.result.now lt) in
    rw (← c.self.view_is) (met_inside c.self.inside.marks.items met c.self.invariant.marked c.index.result.now here)
