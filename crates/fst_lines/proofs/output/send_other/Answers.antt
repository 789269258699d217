use Rattle.std.proofs.Common.{[], ◌∷◌, decimal}
use Rattle.fst_lines.proofs.SendingLemmas.{Sends-err, Sends-then, TakesPart-longer}
use Rattle.fst_lines.proofs.output.send_other.Goals as goal

pub returns-in_err-send : goal.returns-in_err-send
returns-in_err-send g c =
    Sends-err _ _ _ _ _ c.from_residual.ensures.1 (TakesPart-longer _ _ (44 ∷ []) (decimal c.args.n) c.in_err-send.ensures)

pub returns : goal.returns
returns g c = Sends-then _ _ _ _ (44 ∷ []) (decimal c.args.n) c.in_ok-send.ensures (rw c.from.ensures at c.send_number.ensures)
