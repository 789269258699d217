use Rattle.std.proofs.Common.{subst, ℕ, ◌∙◌, Ok, Err}
use Rattle.std.proofs.KnownBytes.{Appends-kept}
use Rattle.fst_types.specs.Limits.{IsShape}
use Rattle.fst_program.proofs.status.plays.Goals as goal

pub returns-in-Ok-flush-clause-done : goal.returns-in-Ok-flush-clause-done
returns-in-Ok-flush-clause-done g c = λ zero.
    let end = c.in-Ok-play.ensures.played in
    let shape = c.in-Ok.ensures in
    record {
      in_range = subst (λ (n : ℕ). IsShape c.args.blocks c.args.size n) c.unwrap_or.ensures shape.0;
      given = end.0;
      sent = end.1;
      read = end.2;
      wrote = Appends-kept _ _ _ _ end.3 c.flush.ensures.bytes;
      completes = (c.in-Ok.shape, (shape.1, shape.2, shape.3 ∙ c.unwrap_or.ensures), c.in-Ok-play.ensures.end, end.4.0, end.4.1);
    }

pub returns-in-Err-flush-clause-stopped : goal.returns-in-Err-flush-clause-stopped
returns-in-Err-flush-clause-stopped g c = λ one.
    let end = c.in-Ok-play.ensures.played in
    let shape = c.in-Ok.ensures in
    (c.in-Ok.shape, (shape.1, shape.2, shape.3 ∙ c.unwrap_or.ensures), end.0, end.1, end.2, Appends-kept _ _ _ _ end.3 c.flush.ensures.bytes, Ok tt, end.4)

pub returns-in-Err-clause-stopped : goal.returns-in-Err-clause-stopped
returns-in-Err-clause-stopped g c = λ one.
    let end = c.in-Err.ensures.played in
    let shape = c.in-Ok.ensures in
    (c.in-Ok.shape, (shape.1, shape.2, shape.3 ∙ c.unwrap_or.ensures), end.0, end.1, end.2, end.3, Err c.in-Err.field-0, end.4)
