use Rattle.std.proofs.Common.{◌≤◌, ◌-◌, length, take}
use Rattle.fst_player.specs.Session.{Leads}
use Rattle.fst_player.proofs.session.Session.feed.Given as goal

abbrev pub invariant-loop-end : goal.invariant-loop-end
invariant-loop-end g l =
    let contents = g.W.Write.contents in
    (l.at ≤ length l.piece) × Leads l.fn.self (take l.at l.piece) (contents l.fn.writer) (contents l.writer) l.self

abbrev pub decreases-loop-end : goal.decreases-loop-end
decreases-loop-end g l = length l.piece - l.at
