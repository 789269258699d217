use Rattle.std.proofs.Common.{ℕ, List}
use Rattle.std.specs.Io.KnownBytes.{Appends, Consumes}
use Rattle.fst_player.specs.Session.{IsAt}
use Rattle.fst_player.proofs.play.play_on.Given as goal

-- what was read so far, and the replies to the lines that ended in it
abbrev pub invariant-stream : goal.invariant-stream
invariant-stream g l =
    let contents = g.W.Write.contents in
    let remaining = g.R.Read.remaining in
    (given : List ℕ) × (sent : List ℕ) × Consumes (remaining l.fn.reader) (remaining l.reader) given × Appends (contents l.fn.writer) (contents l.writer) sent × IsAt l.fn.session.player given sent l.session
