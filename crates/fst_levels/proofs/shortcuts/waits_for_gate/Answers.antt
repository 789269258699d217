use Rattle.std.proofs.Common.{length, sym, ap, ◌∙◌}
use Rattle.fst_heads.specs.Pendings.{is_pending}
use Rattle.fst_heads.proofs.Pended.{pending_same}
use Rattle.fst_levels.proofs.Held.{gate_under, under_gate}
use Rattle.fst_heads.specs.declared.pending.Pending.TheVariants as pending
use Rattle.fst_levels.proofs.shortcuts.waits_for_gate.Goals as goal

pub returns : goal.returns
returns c =
    let heads = c.args.sight.now.heads.now.list.items in
    let row = c.args.row.now in
    let said = sym c.row_pending.ensures in (
      λ held. gate_under heads (length c.args.sight.now.lists.now) c.args.sight.now.heads.now.rising c.requires.acyclic c.requires.disk c.requires.settled row (said ∙ pending_same c.row_pending.result pending.Held (sym c.is_pending.ensures ∙ held)),
      λ under. c.is_pending.ensures ∙ ap (λ p. is_pending p pending.Held) (sym said ∙ under_gate heads (length c.args.sight.now.lists.now) c.args.sight.now.heads.now.rising c.requires.acyclic c.requires.disk c.requires.settled row under),
    )
