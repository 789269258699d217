use Rattle.std.proofs.Common.{◌<◌, ◌∙◌, false, length, Contains, sym, subst}
use Rattle.fst_heads.proofs.Indices.{any_default}
use Rattle.fst_levels.specs.Walks.{Trail}
use Rattle.fst_levels.proofs.Trails.{mark_of_index, met_inside}
use Rattle.fst_levels.proofs.walk.Walk.has_met.Goals as goal

pub returns-clause-met : goal.returns-clause-met
returns-clause-met c =
    let marks = c.self.inside.marks.items in
    let s = c.args.index in
    let lt = subst (λ (t : Trail). s < length t.marks) (sym c.self.view_is) c.requires in (
      λ e. subst (λ (t : Trail). Contains t.met s) c.self.view_is (c.self.invariant.marked.only s (mark_of_index marks s c.index.result.now lt c.index.ensures e)),
      λ m. c.index.ensures ∙ (any_default marks s c.index.result.now false lt ∙ c.self.invariant.marked.each s (subst (λ (t : Trail). Contains t.met s) (sym c.self.view_is) m)),
    )

pub returns-clause-inside : goal.returns-clause-inside
returns-clause-inside c s h = rw (← c.self.view_is) (met_inside c.self.inside.marks.items c.self.inside.met.items c.self.invariant.marked s (subst (λ (t : Trail). Contains t.met s) (sym c.self.view_is) h))
