use Rattle.std.proofs.Common.{◌≡◌, ◌+◌}
use Rattle.journal_calls.specs.Writing.{WritesUntil}
use Rattle.journal_calls.proofs.writing.write_until.Given as goal

-- each round made one write, since the patch was not on disk
abbrev pub invariant-loop : goal.invariant-loop
invariant-loop g l = (l.cache.state.tickets ≡ l.fn.cache.state.tickets + l.counter) × WritesUntil l.fn.patch.0 l.fn.cache.state l.cache.state
