use Rattle.std.proofs.Common.{◌≡◌, subst, ap, ◌∙◌, arith, IfSome}
use Rattle.std.specs.Str.{IsUtf8}
use Rattle.json.specs.Lex.{tokens}
use Rattle.fst_lines.specs.Parsing.{command}
use Rattle.fst_lines.specs.Short.{Asks}
use Rattle.fst_lines.proofs.ShortLemmas.{line_asks}
use Rattle.fst_lines.proofs.short.read_short.Goals as goal

pub returns : goal.returns
returns c =
    let same : c.in-Ok.text.now ≡ c.args.line.now = grind (arith, c.in-Ok.ensures.cases) in
    let text : IsUtf8 c.args.line.now = grind (arith, c.in-Ok.ensures.cases) in
    let read : c.in-Ok-new.reader ≡ tokens c.in-Ok.text.now = c.in-Ok-new.ensures.ok in
    line_asks c.args.line.now c.take_command.result (omega arith) text
    (subst (λ ts. IfSome c.take_command.result (λ r. Asks ts (command r))) (read ∙ ap tokens same) c.take_command.ensures)
