use Rattle.std.proofs.Common.{◌+◌, arith, length-drop}
use Rattle.std.proofs.lemmas.List.{take_rest}
use Rattle.fst_lines.proofs.SendingLemmas.{Appends-kept, Appends-more, TakesPart-front}
use Rattle.fst_lines.proofs.output.send.Goals as goal

pub returns-then-calls-eq0 : goal.returns-then-calls-eq0
returns-then-calls-eq0 g c = TakesPart-front _ _ c.args.bytes.now c.loop-at.at c.loop-at.invariant.sent

pub returns-in-Ok-eq0 : goal.returns-in-Ok-eq0
returns-in-Ok-eq0 g c =
    TakesPart-front _ _ c.args.bytes.now (c.loop-at.at + c.in-Ok-eq0.field-0)
    (Appends-more _ _ _ c.args.bytes.now c.loop-at.at _ c.loop-at.invariant.sent (rw (take_rest c.args.bytes.now c.loop-at.at) at c.in-Ok-eq0.ensures.bytes))

pub loop-at-preserved : goal.loop-at-preserved
loop-at-preserved g c =
    let left = take_rest c.args.bytes.now c.loop-at.at in
    let bound = rw left at c.in-Ok.ensures.bound in
    record {
      within = omega (arith, length-drop c.loop-at.at c.args.bytes.now);
      sent = Appends-more _ _ _ c.args.bytes.now c.loop-at.at _ c.loop-at.invariant.sent (rw left at c.in-Ok.ensures.bytes);
    }

pub returns-in-Err : goal.returns-in-Err
returns-in-Err g c = TakesPart-front _ _ c.args.bytes.now c.loop-at.at (Appends-kept _ _ _ _ c.loop-at.invariant.sent c.in-Err.ensures.bytes)
