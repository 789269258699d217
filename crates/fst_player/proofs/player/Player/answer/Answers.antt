use Rattle.fst_player.proofs.AnswerLemmas.{Told-memory, Told-refused, Told-long, Told-obeyed}
use Rattle.fst_player.proofs.player.Player.answer.Goals as goal

pub returns-in-Ok : goal.returns-in-Ok
returns-in-Ok g c = λ text holds. let at = rw c.in-Kept.is at holds in Told-obeyed c.args.self.now _ _ _ text _ _ _ at.0 at.1 (rw c.as_slice.ensures.value at c.in-Ok.ensures) c.obey.ensures

pub returns-in-Err : goal.returns-in-Err
returns-in-Err g c = λ text holds. let at = rw c.in-Kept.is at holds in Told-refused c.args.self.now _ _ text _ _ _ at.0 at.1 (rw c.as_slice.ensures.value at c.in-Err.ensures) c.send_refusal.ensures

pub returns-in-Long : goal.returns-in-Long
returns-in-Long g c = λ text holds. Told-long c.args.self.now text _ _ _ (rw c.in-Long.is at holds) c.send_refusal-in-Long.ensures

pub returns-in-Refused : goal.returns-in-Refused
returns-in-Refused g c = λ text holds. Told-memory c.args.self.now text _ _ _ (rw c.in-Refused.is at holds).2 c.send_refusal-in-Refused.ensures
