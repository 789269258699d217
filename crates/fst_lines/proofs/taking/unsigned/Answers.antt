use Rattle.std.proofs.Common.{◌≡◌, get_or, false, ◌==◌, Some, IfSome, sym, ap, ◌∙◌, subst}
use Rattle.fast_float.specs.Text.{scan}
use Rattle.serde_json.specs.Data.{unsigned}
use Rattle.serde_json.specs.Read.{number_of, number_from}
use Rattle.fst_lines.proofs.taking.unsigned.Goals as goal

pub returns : goal.returns
unfolding number_of
returns c =
    let s = c.as_bytes-bytes.result.now in
    let plain : (get_or s 0 0 == 45) ≡ false = sym c.has_minus.ensures ∙ c.if-has_minus.false in
    let read : number_from false (scan s) ≡ number_of s = rw plain in
    subst (λ x. IfSome c.whole.result (λ n. x ≡ Some (unsigned n))) (ap (number_from false) c.scan.ensures.parts ∙ read ∙ ap number_of c.as_bytes-bytes.ensures.value) c.whole.ensures
