use Rattle.std.proofs.Common.{◌≡◌, ◌⊎◌, subst}
use Rattle.fst_heads.specs.{Nodes.{nodes_of, pending_in}, Pendings.IsOf}
use Rattle.fst_levels.proofs.{Low.own_low, OwnBlock.number_stays}
use Rattle.fst_heads.specs.declared.pending.Pending.TheVariants as pending
use Rattle.fst_levels.proofs.spared.stays_on.Goals as goal

pub returns : goal.returns
returns c yes_it =
    let heads = c.args.heads.now.list.items in
    let told = pending_in (nodes_of heads) c.args.number in
    number_stays heads c.requires.settled.0 c.args.heads.now.rising c.requires.disk c.requires.settled.1 c.args.block c.args.number
    (own_low c.args.block told (subst (λ p. (p ≡ pending.Nothing) ⊎ IsOf c.args.block p) c.pending_at.ensures (c.is_own.ensures yes_it)))
