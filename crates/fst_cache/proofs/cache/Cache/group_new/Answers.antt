use Rattle.std.proofs.Common.{◌≤◌, ◌+◌, inl, refl, arith}
use Rattle.std.proofs.lemmas.Result.{err_from_is_err_and}
use Rattle.fst_types.specs.Limits.{max_share}
use Rattle.fst_types.specs.Events.{GroupNew}
use Rattle.fst_types.specs.Order.{group_new_order}
use Rattle.fst_types.specs.Step.{refused}
use Rattle.fst_cache.proofs.SameRefused.{refuses_past, kept_unprepared, step_unprepared}
use Rattle.fst_cache.proofs.GroupStep.{kept_new, step_new}
use Rattle.fst_cache.proofs.cache.Cache.group_new.Goals as goal

pub returns-then-made-clause-step : goal.returns-then-made-clause-step
returns-then-made-clause-step g c = refused (inl (inl (omega arith, refl)))

pub invariant_of-self : goal.invariant_of-self
invariant_of-self g c = kept_unprepared c.self.inside c.in_err-group.ensures.same c.self.invariant

pub returns-in_err-group-clause-step : goal.returns-in_err-group-clause-step
returns-in_err-group-clause-step g c =
    let p = err_from_is_err_and c.from_residual.result c.from_residual.ensures.1 in
    let free : max_share ≤ c.args.share.now + 1 → ⊥ = λ h. omega arith in
    rw (p.1, ← c.self.view_is) (step_unprepared c.self.inside c.in_err-group.ensures.same
    (GroupNew c.args.share.now) p.0 (rw p.2 (refuses_past _ _ _ (group_new_order c.self.inside.graph.heads c.self.inside.graph.numbers c.self.inside.graph.groups) free c.in_err-group.ensures.refused)))

pub invariant_of-self-2 : goal.invariant_of-self-2
invariant_of-self-2 g c = kept_new c.self.inside c.self.invariant c.args.share.now (λ h. omega arith) c.in_ok-group.ensures.ok

pub returns-clause-step : goal.returns-clause-step
returns-clause-step g c = rw (← c.self.view_is) (step_new c.self.inside c.self.invariant c.args.share.now (λ h. omega arith) c.in_ok-group.ensures.ok)
