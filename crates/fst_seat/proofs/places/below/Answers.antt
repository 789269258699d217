use Rattle.std.proofs.Common.{arith}
use Rattle.std.proofs.lemmas.Result.{err_from_is_err_and}
use Rattle.fst_seat.proofs.places.below.Goals as goal

pub returns-in_err-numbers-clause-long : goal.returns-in_err-numbers-clause-long
returns-in_err-numbers-clause-long c = let p = err_from_is_err_and c.from_residual.result c.from_residual.ensures.1 in rw p.1 tt

pub returns-in_err-numbers-clause-each : goal.returns-in_err-numbers-clause-each
returns-in_err-numbers-clause-each c = let p = err_from_is_err_and c.from_residual.result c.from_residual.ensures.1 in rw p.1 tt

pub loop-number-init : goal.loop-number-init
loop-number-init c = record { long = c.in_ok-numbers.ensures.len; room = c.in_ok-numbers.ensures.capacity; each = λ k lt. absurd (omega (arith, lt)) }

pub push_reserved-requires : goal.push_reserved-requires
push_reserved-requires c = omega (arith, c.loop-number.invariant.long, c.loop-number.invariant.room, c.loop-number-test.true)

pub returns-clause-each : goal.returns-clause-each
returns-clause-each c = λ k lt. c.loop-number.invariant.each k (omega (arith, lt, c.loop-number-test.false))
