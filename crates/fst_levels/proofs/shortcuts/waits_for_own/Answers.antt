use Rattle.std.proofs.Common.{◌≡◌, ◌⊎◌, ap, refl, sym, subst, length, Contains}
use Rattle.fst_heads.specs.{Grading.LeadsNowhere, Heads.{kind_of, patch_of, patches_of}, Nodes.{nodes_of, pending_in}, Pendings.{IsOf, Sinks}}
use Rattle.fst_heads.proofs.{Indices.patch_at, Indexed.number_in}
use Rattle.fst_levels.proofs.{Low.own_low, OwnBlock.{gate_nowhere, number_nowhere, row_nowhere}}
use Rattle.fst_heads.specs.declared.pending.Pending.TheVariants as pending
use Rattle.fst_levels.proofs.shortcuts.waits_for_own.Goals as goal

pub returns-then-is_own : goal.returns-then-is_own
returns-then-is_own c yes_it =
    let told = pending_in (nodes_of c.args.sight.now.heads.now.list.items) c.args.number in
    number_nowhere c.args.sight.now.heads.now.list.items (length c.args.sight.now.lists.now) c.args.sight.now.heads.now.rising c.requires.disk c.requires.settled c.args.block _ c.args.number refl
    (own_low c.args.block told (subst (λ p. (p ≡ pending.Nothing) ⊎ IsOf c.args.block p) c.pending_of.ensures (c.is_own.ensures c.if-is_own.true)))

pub returns-in-OpenGate : goal.returns-in-OpenGate
returns-in-OpenGate c own =
    let heads = c.args.sight.now.heads.now.list.items in
    let h = c.index-head.result.now in
    let index = c.in-Some.ensures.found in
    let here : Contains (patches_of heads) (patch_of h) = subst (λ x. Contains (patches_of heads) (patch_of x)) (sym c.index-head.ensures) (patch_at heads c.in-Some.index h index.0) in
    let row = c.as_slice.result.now in
    let low = subst (Sinks (pending.Behind c.args.block)) c.row_pending-below.ensures (own_low c.args.block c.row_pending-below.result (c.is_own-in-OpenGate.ensures own)) in
    let leads = row_nowhere heads (length c.args.sight.now.lists.now) c.args.sight.now.heads.now.rising c.requires.disk c.requires.settled c.args.block row low in
    gate_nowhere heads c.args.sight.now.heads.now.rising c.args.block c.args.number (patch_of h) here (number_in heads c.args.number c.in-Some.index h index c.index-head.ensures) (ap kind_of c.in-OpenGate.is)
    (subst (LeadsNowhere (patches_of heads) c.args.block) c.as_slice.ensures leads)
