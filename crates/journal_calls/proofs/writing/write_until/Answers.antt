use Rattle.std.proofs.Common.{◌≡◌, ◌∙◌, ◌+◌, not, sym, ap, rules, arith}
use Rattle.std.proofs.lemmas.Bool.{false≢true}
use Rattle.journal_calls.specs.Writing.{WritesNext, none, more}
use Rattle.journal_calls.proofs.Sends.{of_some}
use Rattle.journal_calls.proofs.writing.write_until.Goals as goal

pub returns-then-is_none-clause-on_disk : goal.returns-then-is_none-clause-on_disk
returns-then-is_none-clause-on_disk g c = search rules

pub returns-then-is_durable-2-clause-at_most : goal.returns-then-is_durable-2-clause-at_most
returns-then-is_durable-2-clause-at_most g c = search rules

pub returns-else-is_durable-2-clause-spent : goal.returns-else-is_durable-2-clause-spent
returns-else-is_durable-2-clause-spent g c = search rules

pub returns-else-is_durable-2-clause-at_most : goal.returns-else-is_durable-2-clause-at_most
returns-else-is_durable-2-clause-at_most g c = search rules

pub loop-init : goal.loop-init
loop-init g c = (omega arith, none)

pub loop-preserved : goal.loop-preserved
loop-preserved g c =
    let some = c.is_none.ensures ∙ ap not c.if-is_none.false in
    let wrote = of_some c.in_ok-write_next.field-0 (λ how. WritesNext c.loop.cache.state how c.write_next.new.cache.state) some c.in_ok-write_next.ensures.wrote in
    let one = of_some c.in_ok-write_next.field-0 (λ _. c.write_next.new.cache.state.tickets ≡ c.loop.cache.state.tickets + 1) some c.in_ok-write_next.ensures.one_write in
    (omega (arith, one.1, c.loop.invariant.0), more c.loop.invariant.1 (λ d. false≢true (sym c.if-is_durable.false ∙ c.is_durable.ensures.1 d)) wrote.1)
