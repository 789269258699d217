use Rattle.std.proofs.Common.{◌∙◌, ap}
use Rattle.fst_levels.proofs.NearRow.{row_direct}
use Rattle.fst_levels.proofs.shortcuts.row_below.Goals as goal

pub returns-in-Some : goal.returns-in-Some
returns-in-Some c = row_direct c.args.sight.now.heads.now.list.items c.args.sight.now.heads.now.rising c.args.number c.in-Some.index c.index.result.now c.in-Some.ensures.found c.as_slice.result.now (c.as_slice.ensures ∙ ap (λ h. h.dependencies.items) c.index.ensures)
