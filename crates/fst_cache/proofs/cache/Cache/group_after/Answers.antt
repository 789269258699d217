use Rattle.std.proofs.Common.{◌∙◌}
use Rattle.std.proofs.lemmas.Result.{on_err_weaker}
use Rattle.fst_types.specs.Events.{GroupAfter}
use Rattle.fst_cache.proofs.SameRefused.{view_unprepared, kept_unprepared, step_unprepared, on_either, match_either}
use Rattle.fst_cache.proofs.GroupStep.{kept_after, step_after}
use Rattle.fst_cache.proofs.cache.Cache.group_after.Goals as goal

pub invariant_of-self : goal.invariant_of-self
invariant_of-self g c =
    on_either c.group_after.result c.group_after.ensures.ok c.group_after.ensures.same
    (λ d. kept_after c.self.inside c.self.invariant d)
    (λ same. kept_unprepared c.self.inside same c.self.invariant)

pub returns-clause-step : goal.returns-clause-step
returns-clause-step g c =
    rw (← c.self.view_is)
    (match_either c.group_after.result c.group_after.ensures.ok c.group_after.ensures.same c.group_after.ensures.refused
    (λ d. step_after c.self.inside c.self.invariant d)
    (λ fault same why. step_unprepared c.self.inside same (GroupAfter c.args.group.0 c.args.on.0) fault why))

pub returns-clause-refused : goal.returns-clause-refused
returns-clause-refused g c = on_err_weaker c.group_after.result (λ same. view_unprepared c.self.inside same ∙ c.self.view_is) c.group_after.ensures.same
