use Rattle.std.proofs.Common.{sym, ◌∙◌}
use Rattle.serde_json.specs.View.{view}
use Rattle.fst_lines.proofs.SmallLemmas.{alone_is}
use Rattle.fst_lines.proofs.command.small.Goals as goal

pub returns-then-has_only : goal.returns-then-has_only
returns-then-has_only c = c.alone.ensures.named ∙ alone_is c.args.name.now (view c.args.value.now) (sym c.if-has_only.ensures)
