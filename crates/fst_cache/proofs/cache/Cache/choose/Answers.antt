use Rattle.std.proofs.Common.{◌≤◌, length, refl, inl, arith}
use Rattle.std.proofs.lemmas.List.{length-map}
use Rattle.fst_types.specs.Step.{refused}
use Rattle.fst_seat.specs.Names.{numbers_of}
use Rattle.fst_cache.proofs.SendRefused.{step_choose}
use Rattle.fst_cache.proofs.cache.Cache.choose.Goals as goal
use Rattle.fst_cache.proofs.SameRefused.{kept_unprepared}

pub returns-then-block-len-clause-step : goal.returns-then-block-len-clause-step
returns-then-block-len-clause-step g c =
    let past : length c.args.self.now.state.blocks ≤ c.args.block.0 = rw (← c.self.view_is, length-map) (omega (arith, c.if-block-len.true, c.len.ensures)) in
    refused (inl (inl (past, refl)))

pub invariant_of-self : goal.invariant_of-self
invariant_of-self g c = kept_unprepared c.self.inside c.chosen.ensures.same c.self.invariant

pub returns-clause-step : goal.returns-clause-step
returns-clause-step g c =
    let there : length c.args.self.now.state.blocks ≤ c.args.block.0 → ⊥ = rw (← c.self.view_is, length-map) (λ h. omega (arith, h, c.if-block-len.false, c.len.ensures)) in
    rw (← c.self.view_is, c.chosen.ensures.same)
    (step_choose (λ v. numbers_of v.items) _ c.args.block.0 c.chosen.result (rw (← c.self.view_is) at there) c.chosen.ensures.ok c.chosen.ensures.refused)
