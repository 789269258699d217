use Rattle.std.proofs.Common.{◌≤◌, inl, refl, arith}
use Rattle.std.proofs.lemmas.Result.{err_from_is_err_and}
use Rattle.fst_types.specs.Limits.{max_share}
use Rattle.fst_types.specs.Events.{MakeEmpty}
use Rattle.fst_types.specs.Order.{make_order}
use Rattle.fst_types.specs.Step.{refused}
use Rattle.fst_seat.specs.Names.{numbers_of}
use Rattle.fst_cache.proofs.SameRefused.{refuses_past, kept_unprepared, step_unprepared}
use Rattle.fst_cache.proofs.SameMaking.{kept_empty, step_empty}
use Rattle.fst_cache.proofs.cache.Cache.empty.Goals as goal

pub returns-then-made-eq18446744073709551615-clause-step :
    goal.returns-then-made-eq18446744073709551615-clause-step
returns-then-made-eq18446744073709551615-clause-step g c = refused (inl (inl (omega arith, refl)))

pub invariant_of-self : goal.invariant_of-self
invariant_of-self g c = kept_unprepared c.self.inside c.in_err-no.ensures.same c.self.invariant

pub returns-in_err-no-clause-step : goal.returns-in_err-no-clause-step
returns-in_err-no-clause-step g c =
    let p = err_from_is_err_and c.from_residual.result c.from_residual.ensures.1 in
    let free : max_share ≤ c.args.share.now → ⊥ = λ h. omega arith in
    rw (p.1, ← c.self.view_is) (step_unprepared c.self.inside c.in_err-no.ensures.same
    (MakeEmpty c.args.share.now (numbers_of c.args.after.now)) p.0 (rw p.2 (refuses_past _ _ _ (make_order c.self.inside.graph.heads c.self.inside.graph.numbers (numbers_of c.args.after.now)) free c.in_err-no.ensures.refused)))

pub invariant_of-self-2 : goal.invariant_of-self-2
invariant_of-self-2 g c = kept_empty c.self.inside c.self.invariant c.args.share.now (λ h. omega arith) c.in_ok-no.ensures.ok

pub returns-clause-step : goal.returns-clause-step
returns-clause-step g c = rw (← c.self.view_is) (step_empty c.self.inside c.self.invariant c.args.share.now (λ h. omega arith) c.in_ok-no.ensures.ok)
