use Rattle.fst_heads.proofs.{Basics.{refl, take_more, map_push, arith, common_steps}, Words.{nodes_of}}
use Rattle.fst_heads.proofs.Placed.{launched_start, launched_more}
use Rattle.fst_heads.proofs.launch.launch_all.Goals as goal

pub loop-no-init : goal.loop-no-init
loop-no-init c = record { nodes = launched_start (nodes_of c.args.heads.now.list.items); queued = c.requires.idle; frames = refl; places = refl; capacity = refl }

pub loop-no-preserved : goal.loop-no-preserved
loop-no-preserved c = grind (arith, common_steps, take_more, map_push, launched_more)
