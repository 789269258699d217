use Rattle.std.proofs.Common.{◌≡◌, ◌+◌, ◌-◌, take, drop, arith, rules, IsOk}
use Rattle.std.proofs.KnownBytes.{Appends-nil, Appends-trans}
use Rattle.hex.specs.Hex.{encode_lower, encode_with}
use Rattle.fst_lines.proofs.SendingLemmas.{OnOk-at, Sends-err, TakesPart-longer, TakesPart-then, encode_lower-take, encode_lower-split}
use Rattle.fst_lines.proofs.output.send_hex.Goals as goal

pub loop-at-init : goal.loop-at-init
unfolding encode_with
loop-at-init g c = record { within = omega arith; sent = Appends-nil _ }

pub returns-in_err-send : goal.returns-in_err-send
returns-in_err-send g c =
    let bytes = c.args.bytes.now in
    let at = c.loop-at.at in
    let n = c.min-end.result - at in
    let ok : IsOk c.encode_to_slice.result = search rules in
    let text : c.encode_to_slice.new.output ≡ encode_lower (take n (drop at bytes)) = OnOk-at _ _ ok c.encode_to_slice.ensures.written in
    Sends-err _ _ _ _ _ c.from_residual.ensures.1
    (rw (encode_lower-split bytes at n) (TakesPart-longer _ _ _ _ (TakesPart-then _ _ _ _ _ c.loop-at.invariant.sent (rw text at c.in_err-send.ensures))))

pub loop-at-preserved : goal.loop-at-preserved
loop-at-preserved g c =
    let bytes = c.args.bytes.now in
    let at = c.loop-at.at in
    let n = c.min-end.result - at in
    let ok : IsOk c.encode_to_slice.result = search rules in
    let text : c.encode_to_slice.new.output ≡ encode_lower (take n (drop at bytes)) = OnOk-at _ _ ok c.encode_to_slice.ensures.written in
    let fits : at + n ≡ c.min-end.result = omega arith in
    record {
      within = omega arith;
      sent = rw (← fits, encode_lower-take bytes at n) (Appends-trans _ _ _ _ _ c.loop-at.invariant.sent (rw text at c.in_ok-send.ensures));
    }
