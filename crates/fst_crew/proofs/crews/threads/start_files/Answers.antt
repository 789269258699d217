use Rattle.std.proofs.Common.{◌≡◌, ap, arith, ◌∙◌}
use Rattle.std.proofs.lemmas.List.Elements.{All-push}
use Rattle.fst_crew.proofs.crews.threads.start_files.Goals as goal

pub loop-at-preserved : goal.loop-at-preserved
loop-at-preserved g c = (
  omega (arith, c.push_reserved.ensures.len, c.loop-at.invariant.0),
  rw c.push_reserved.ensures.items (All-push (λ h. h.promise.0 ≡ c.args.plan.rounds) c.loop-at.files.items c.in-Ok.handle c.loop-at.invariant.1 (ap (λ p. p.0) c.in-Ok.ensures.ok)),
  c.push_reserved.ensures.capacity ∙ c.loop-at.invariant.2,
)
