use Rattle.fst_cache.proofs.SameForgetting.{kept_forget, step_forget}
use Rattle.fst_cache.proofs.cache.Cache.forget.Goals as goal

pub invariant_of-self : goal.invariant_of-self
invariant_of-self g c = kept_forget c.self.inside c.self.invariant c.of_heads-self-inside.result c.forget-dropped.ensures c.of_heads-self-inside.ensures

pub returns-clause-step : goal.returns-clause-step
returns-clause-step g c = rw (← c.self.view_is) (step_forget c.self.inside c.self.invariant c.of_heads-self-inside.result c.forget-dropped.ensures c.of_heads-self-inside.ensures)
