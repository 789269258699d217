use Rattle.std.proofs.Common.{◌∙◌, inl}
use Rattle.std.proofs.lemmas.Result.{on_err_weaker}
use Rattle.fst_types.specs.Events.{GroupClose}
use Rattle.fst_cache.proofs.SameRefused.{view_unprepared, kept_unprepared, step_unprepared, on_either, match_either}
use Rattle.fst_cache.proofs.GroupStep.{kept_close, step_close}
use Rattle.fst_cache.proofs.cache.Cache.group_close.Goals as goal

pub invariant_of-self : goal.invariant_of-self
invariant_of-self g c =
    on_either c.group_close.result c.group_close.ensures.ok c.group_close.ensures.same
    (λ d. kept_close c.self.inside c.self.invariant d)
    (λ same. kept_unprepared c.self.inside same c.self.invariant)

pub returns-clause-step : goal.returns-clause-step
returns-clause-step g c =
    rw (← c.self.view_is)
    (match_either c.group_close.result c.group_close.ensures.ok c.group_close.ensures.same c.group_close.ensures.refused
    (λ d. step_close c.self.inside c.self.invariant d)
    (λ fault same why. step_unprepared c.self.inside same (GroupClose c.args.group.0) fault (inl why)))

pub returns-clause-refused : goal.returns-clause-refused
returns-clause-refused g c = on_err_weaker c.group_close.result (λ same. view_unprepared c.self.inside same ∙ c.self.view_is) c.group_close.ensures.same
