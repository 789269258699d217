use Rattle.fst_player.proofs.ScriptRuns.{script_is_run}
use Rattle.fst_player.proofs.laws.script_is_run.Goals as goal

pub returns : goal.returns
returns c = script_is_run
