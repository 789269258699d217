use Rattle.std.proofs.Common.{◌≡◌, ◌∙◌, Some, refl, sym, ap}
use Rattle.fst_player.specs.Kept.{job_kept}
use Rattle.fst_player.proofs.CommittedLemmas.{out_inside, out_sized}
use Rattle.fst_player.proofs.KeptLemmas.{kept_out, settle_kept, settle_refused}
use Rattle.fst_player.proofs.TellLemmas.{Obeyed-stranger, Obeyed-settled}
use Rattle.fst_player.proofs.player.Player.done.Goals as goal

pub returns-in_default : goal.returns-in_default
returns-in_default g c = rw (← c.self.view_is) (Obeyed-stranger _ _ _ _ _ _ (rw c.deref.ensures.value at c.in_default.ensures) c.send_refusal.ensures)

pub take_in-requires-clause-inside : goal.take_in-requires-clause-inside
take_in-requires-clause-inside g c =
    let at = rw c.deref.ensures.value at c.in-Some.ensures in
    let out = kept_out _ _ _ _ _ _ c.in-Some.at c.remove-job.result c.self.invariant at.within c.remove-job.ensures.value in
    rw c.carry_told-done.ensures.block (out_inside _ _ _ _ _ _ c.self.invariant _ _ _ out)

pub take_in-requires-clause-same_size : goal.take_in-requires-clause-same_size
take_in-requires-clause-same_size g c =
    let at = rw c.deref.ensures.value at c.in-Some.ensures in
    let out = kept_out _ _ _ _ _ _ c.in-Some.at c.remove-job.result c.self.invariant at.within c.remove-job.ensures.value in
    rw (c.carry_told-done.ensures.block, c.carry_told-done.ensures.image) (out_sized _ _ _ _ _ _ c.self.invariant _ _ _ out)

pub unreachable-requires : goal.unreachable-requires
unreachable-requires g c =
    let at = rw c.deref.ensures.value at c.in-Some.ensures in
    let out = kept_out _ _ _ _ _ _ c.in-Some.at c.remove-job.result c.self.invariant at.within c.remove-job.ensures.value in
    let step = rw (c.carry_told-done.ensures.ticket, c.carry_told-done.ensures.block, c.carry_told-done.ensures.image) at c.in-Err.ensures.step.1 in
    settle_refused _ _ _ _ _ _ _ step out

pub invariant_of-self : goal.invariant_of-self
invariant_of-self g c =
    let at = rw c.deref.ensures.value at c.in-Some.ensures in
    let step = rw (c.carry_told-done.ensures.ticket, c.carry_told-done.ensures.block, c.carry_told-done.ensures.image) at c.in-Ok.ensures.step in
    let taken = rw (c.carry_told-done.ensures.block, c.carry_told-done.ensures.image) at c.take_in.ensures in
    rw c.remove-job.ensures.items (settle_kept _ _ _ _ _ _ _ _ c.in-Some.at c.remove-job.result _ _ c.self.invariant at.within c.remove-job.ensures.value step taken)

pub returns : goal.returns
returns g c =
    let i = c.self.inside in
    let job = c.remove-job.result in
    let at = rw c.deref.ensures.value at c.in-Some.ensures in
    let ticketed : job.ticket ≡ c.args.ticket.0 = ap (λ j. j.ticket) c.remove-job.ensures.value ∙ at.ticketed job in
    let found = at.found job ∙ ap (λ j. Some (job_kept j)) (sym c.remove-job.ensures.value) in
    let step = rw (c.carry_told-done.ensures.ticket, c.carry_told-done.ensures.block, c.carry_told-done.ensures.image, c.carry_told-done.ensures.written, ticketed) at c.in-Ok.ensures.step in
    rw (← c.self.view_is, c.remove-job.ensures.items, ← at.others)
    (Obeyed-settled _ _ c.args.ticket.0 c.args.fail (job_kept job) _ c.in-Ok.settled _ _ _ found step refl (rw c.block-block.ensures at c.send_settled.ensures))
