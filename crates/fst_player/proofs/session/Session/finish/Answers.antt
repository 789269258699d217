use Rattle.std.proofs.Common.{Ok, Err}
use Rattle.fst_player.proofs.SessionLemmas.{Finishes-empty, Finishes-err, Finishes-kept, Finishes-line}
use Rattle.fst_player.proofs.session.Session.finish.Goals as goal

pub returns-then-not-has_bytes : goal.returns-then-not-has_bytes
returns-then-not-has_bytes g c = Finishes-empty c.args.self.now _ (c.has_bytes.ensures.none c.if-not-has_bytes.true)

pub returns-in_err-end_line : goal.returns-in_err-end_line
returns-in_err-end_line g c =
    Finishes-err (Unit {0}) _ c.args.self.now _ _ (tt {0}) _ c.from_residual.ensures.1
    (Finishes-line {T = Unit {0}} {E = Unit {0}} c.args.self.now c.end_line.new.self _ _ (Err (tt {0})) (c.has_bytes.ensures.some c.if-not-has_bytes.false) c.in_err-end_line.ensures.answered)

pub returns : goal.returns
returns g c =
    Finishes-kept (Unit {0}) c.args.self.now _ _ _ (tt {0}) c.pass_on.result
    (Finishes-line {T = Unit {0}} {E = Unit {0}} c.args.self.now c.end_line.new.self _ _ (Ok (tt {0})) (c.has_bytes.ensures.some c.if-not-has_bytes.false) c.in_ok-end_line.ensures.answered)
    c.pass_on.ensures
