use Rattle.fst_heads.proofs.{Basics.{◌<◌, ◌∙◌, ap, sym, subst, AllPairs-filter}, Patches.is_live, Words.{Head, IsRising, nodes_of, patch_of}, Forgetting.live_heads}
use Rattle.fst_heads.proofs.places.drop_on_disk.Goals as goal

pub invariant_of-heads : goal.invariant_of-heads
invariant_of-heads c = record { rising = subst IsRising (sym c.leave_live.ensures) (AllPairs-filter (λ (x y : Head). x.number < y.number) (λ h. is_live (patch_of h)) c.args.heads.now.list.items c.args.heads.now.rising) }

pub returns : goal.returns
returns c = ap nodes_of c.leave_live.ensures ∙ live_heads c.args.heads.now.list.items
