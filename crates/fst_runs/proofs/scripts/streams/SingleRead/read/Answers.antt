use Rattle.std.proofs.Common.{◌<◌, ℕ, List, ◌++◌, length, sym, ap, ◌∙◌, arith, rules}
use Rattle.std.proofs.lemmas.List.{take_more_set}
use Rattle.fst_runs.proofs.scripts.streams.SingleRead.read.Goals as goal

pub returns-clause-bytes : goal.returns-clause-bytes
returns-clause-bytes c =
    let buf = c.args.buf.now in
    let room : 0 < length buf = search rules in (
      c.in-Some.ensures.cases.0 ∙ ap (λ (l : List ℕ). l ++ c.in-Some.rest.now) (sym (take_more_set buf 0 c.in-Some.first.now room)),
      λ e _. absurd (omega arith),
    )
