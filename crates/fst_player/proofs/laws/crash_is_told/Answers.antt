use Rattle.fst_player.proofs.CrashTold.{crash_is_told}
use Rattle.fst_player.proofs.laws.crash_is_told.Goals as goal

pub returns : goal.returns
returns c = crash_is_told
