use Rattle.std.proofs.Common.{◌∙◌}
use Rattle.fst_player.proofs.play.play.Goals as goal

pub returns-in-Ok-clause-played : goal.returns-in-Ok-clause-played
returns-in-Ok-clause-played g c = c.play_on.ensures.played c.args.shape (c.new-session.ensures.player ∙ c.in-Ok.ensures)
