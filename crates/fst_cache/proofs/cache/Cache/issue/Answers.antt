use Rattle.std.proofs.Common.{◌∙◌, refl, inr}
use Rattle.fst_types.specs.Step.{refused}
use Rattle.fst_cache.proofs.cache.Cache.issue.Goals as goal

pub returns-in-Err-clause-step : goal.returns-in-Err-clause-step
returns-in-Err-clause-step g c = rw c.in-Err.ensures.same (refused c.in-Err.ensures.refused)

pub returns-in-Err-image-clause-step : goal.returns-in-Err-image-clause-step
returns-in-Err-image-clause-step g c = rw (c.in-Err-image.ensures.same, c.in-Ok.ensures.same) (refused (inr (c.in-Ok.ensures.clear, c.in-Err-image.ensures.only_memory)))

pub returns-in_default-clause-step : goal.returns-in_default-clause-step
returns-in_default-clause-step g c = rw (c.in-Ok-image.ensures.same, c.in-Ok.ensures.same) (refused (inr (c.in-Ok.ensures.clear, refl)))

pub send-requires-clause-clear : goal.send-requires-clause-clear
send-requires-clause-clear g c = rw (c.in-Ok-image.ensures.same, c.in-Ok.ensures.same) c.in-Ok.ensures.clear

pub returns-in-Err-clause-before : goal.returns-in-Err-clause-before
returns-in-Err-clause-before g c = tt

pub returns-in-Err-clause-slot_faults : goal.returns-in-Err-clause-slot_faults
returns-in-Err-clause-slot_faults g c = tt

pub returns-in-Err-clause-apart : goal.returns-in-Err-clause-apart
returns-in-Err-clause-apart g c = tt

pub returns-in-Err-image-clause-before : goal.returns-in-Err-image-clause-before
returns-in-Err-image-clause-before g c = tt

pub returns-in-Err-image-clause-slot_faults : goal.returns-in-Err-image-clause-slot_faults
returns-in-Err-image-clause-slot_faults g c = tt

pub returns-in-Err-image-clause-apart : goal.returns-in-Err-image-clause-apart
returns-in-Err-image-clause-apart g c = tt

pub returns-in_default-clause-before : goal.returns-in_default-clause-before
returns-in_default-clause-before g c = tt

pub returns-in_default-clause-slot_faults : goal.returns-in_default-clause-slot_faults
returns-in_default-clause-slot_faults g c = tt

pub returns-in_default-clause-apart : goal.returns-in_default-clause-apart
returns-in_default-clause-apart g c = tt

pub returns-in-Err-clause-refused : goal.returns-in-Err-clause-refused
returns-in-Err-clause-refused g c = c.in-Err.ensures.same

pub returns-in-Err-image-clause-refused : goal.returns-in-Err-image-clause-refused
returns-in-Err-image-clause-refused g c = c.in-Err-image.ensures.same ∙ c.in-Ok.ensures.same

pub returns-in_default-clause-refused : goal.returns-in_default-clause-refused
returns-in_default-clause-refused g c = c.in-Ok-image.ensures.same ∙ c.in-Ok.ensures.same

pub returns-clause-refused : goal.returns-clause-refused
returns-clause-refused g c = tt

pub returns-clause-step : goal.returns-clause-step
returns-clause-step g c = rw (c.in-Ok-image.ensures.same, c.in-Ok.ensures.same) at c.send.ensures.step

pub returns-clause-before : goal.returns-clause-before
returns-clause-before g c = (rw (c.in-Ok-image.ensures.same, c.in-Ok.ensures.same) at c.send.ensures.held, rw (c.in-Ok-image.ensures.same, c.in-Ok.ensures.same) at c.send.ensures.before)

pub returns-clause-slot_faults : goal.returns-clause-slot_faults
returns-clause-slot_faults g c = rw (c.in-Ok-image.ensures.same, c.in-Ok.ensures.same) at c.send.ensures.slot_faults

pub returns-clause-apart : goal.returns-clause-apart
returns-clause-apart g c = (rw (c.in-Ok-image.ensures.same, c.in-Ok.ensures.same) at c.send.ensures.faults, rw (c.in-Ok-image.ensures.same, c.in-Ok.ensures.same) at c.send.ensures.resident, rw (c.in-Ok-image.ensures.same, c.in-Ok.ensures.same) at c.send.ensures.back)
