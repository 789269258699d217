use Rattle.std.proofs.Common.{sym, codes, [], ◌∷◌}
use Rattle.std.specs.List.{flat_map}
use Rattle.std.proofs.KnownBytes.{Appends-trans}
use Rattle.fst_lines.specs.Parsing.{block_numbers}
use Rattle.fst_lines.specs.Replies.{crash_part}
use Rattle.fst_player.specs.Script.{left_of_each}
use Rattle.fst_lines.proofs.SendingLemmas.{Sends-err, Sends-then, TakesPart-longer, TakesPart-then}
use Rattle.fst_player.proofs.LeftLemmas.{Obeyed-crashed, Obeyed-not_crashed}
use Rattle.fst_player.proofs.player.Player.crash.Goals as goal

pub returns-in-Some : goal.returns-in-Some
returns-in-Some g c = Obeyed-not_crashed c.args.self.now (block_numbers c.args.finish.now) c.in-Some.fault _ _ _ (sym c.in-Some.ensures) c.send_refusal.ensures

pub returns-in_err-send : goal.returns-in_err-send
returns-in_err-send g c =
    let body = flat_map crash_part (left_of_each c.args.self.now (block_numbers c.args.finish.now)) in
    Obeyed-crashed c.args.self.now (block_numbers c.args.finish.now) _ _ _ (sym c.in_default.ensures)
    (Sends-err _ _ _ _ _ c.from_residual.ensures.1 (TakesPart-longer _ _ _ (10 ∷ []) (TakesPart-longer _ _ (codes "crash") body c.in_err-send.ensures)))

pub returns-in_err-send_each_left : goal.returns-in_err-send_each_left
returns-in_err-send_each_left g c =
    let body = flat_map crash_part (left_of_each c.args.self.now (block_numbers c.args.finish.now)) in
    Obeyed-crashed c.args.self.now (block_numbers c.args.finish.now) _ _ _ (sym c.in_default.ensures)
    (Sends-err _ _ _ _ _ c.from_residual-in_err-send_each_left.ensures.1 (TakesPart-longer _ _ _ (10 ∷ []) (TakesPart-then _ _ _ (codes "crash") body c.in_ok-send.ensures c.in_err-send_each_left.ensures)))

pub returns : goal.returns
returns g c =
    let body = flat_map crash_part (left_of_each c.args.self.now (block_numbers c.args.finish.now)) in
    Obeyed-crashed c.args.self.now (block_numbers c.args.finish.now) _ _ _ (sym c.in_default.ensures)
    (Sends-then _ _ _ _ _ (10 ∷ []) (Appends-trans _ _ _ (codes "crash") body c.in_ok-send.ensures c.in_ok-send_each_left.ensures) c.send-2.ensures)
