use Rattle.std.proofs.Common.{◌≡◌, ◌∙◌, not, refl, sym, ap, inr, subst, arith}
use Rattle.std.proofs.lemmas.Bool.{false≢true}
use Rattle.std.proofs.lemmas.Result.{err_from_is_err_and}
use Rattle.fst_types.specs.Residence.{faults_rose}
use Rattle.fst_cache.specs.Names.{numbers_of}
use Rattle.journal_calls.specs.Making.{change_of, Rounds, IsRefusedHere, refused}
use Rattle.journal_calls.specs.Writing.{WritesNext}
use Rattle.journal_calls.proofs.Rounds.{of_none, so_far, spent_at, rounds_at, refused_at, unsent_at, stuck_at}
use Rattle.journal_calls.proofs.Sends.{of_some}
use Rattle.journal_calls.proofs.patching.patch_or_write.Goals.{In-Err, After-loop}
use Rattle.journal_calls.proofs.patching.patch_or_write.Goals as goal

-- the rounds that were made, where the change was refused once more
rounds : (g : _) (c : In-Err g) → Rounds (change_of c.args.share.now c.args.block.0 c.args.at c.args.bytes.now (numbers_of c.args.after.now)) c.args.cache.now.state c.patch.new.self.state
rounds g c =
    rounds_at c.args.share.now c.args.block.0 c.args.at c.args.bytes.now (numbers_of c.args.after.now) c.args.cache.now.state c.loop.cache.state c.patch.new.self.state c.loop.share c.loop.invariant.0 _ c.in-Err.fault c.in-Err.ensures.step
    (so_far _ _ _ _ _ _ c.loop.counter c.loop.refused c.loop.cache.state c.loop.invariant.1)

here : (g : _) (c : In-Err g) → IsRefusedHere (change_of c.args.share.now c.args.block.0 c.args.at c.args.bytes.now (numbers_of c.args.after.now)) c.patch.new.self.state c.in-Err.fault
here g c =
    refused_at c.args.share.now c.args.block.0 c.args.at c.args.bytes.now (numbers_of c.args.after.now) c.args.cache.now.state c.loop.cache.state c.patch.new.self.state c.loop.share c.loop.invariant.0 _ c.in-Err.fault c.in-Err.ensures.step

pub returns-in-Ok-clause-way : goal.returns-in-Ok-clause-way
returns-in-Ok-clause-way g c = (
  c.loop.cache.state,
  so_far _ _ _ _ _ _ c.loop.counter c.loop.refused c.loop.cache.state c.loop.invariant.1,
  faults_rose c.loop.cache.faults c.patch.new.self.faults c.args.block.0,
  c.in-Ok.field-0-1,
  rw (← c.loop.invariant.0) c.in-Ok.ensures.step,
)

pub returns-in-Err-2-clause-way : goal.returns-in-Err-2-clause-way
returns-in-Err-2-clause-way g c =
    let at = (goal.at.returns-in-Err-2-clause-way g c).In-Err in
    refused (rounds g at) (here g at) (λ room. absurd (false≢true (sym c.if-is_want_of_room.false ∙ c.is_want_of_room.ensures.1 room)))

pub returns-in_err-write_next-clause-way : goal.returns-in_err-write_next-clause-way
returns-in_err-write_next-clause-way g c =
    let at = (goal.at.returns-in_err-write_next-clause-way g c).In-Err in
    let p = err_from_is_err_and c.from_residual.result c.from_residual.ensures.1 in
    rw (p.1, p.2) (unsent_at _ _ _ _ _ _ c.patch.new.self c.write_next.new.cache _ c.in_err-write_next.ensures.same (rounds g at) c.in_err-write_next.ensures.next)

pub returns-then-is_none-clause-way : goal.returns-then-is_none-clause-way
returns-then-is_none-clause-way g c =
    let at = (goal.at.returns-then-is_none-clause-way g c).In-Err in
    let none = c.is_none.ensures ∙ ap not c.if-is_none.true in
    stuck_at _ _ _ _ _ _ c.patch.new.self c.write_next.new.cache _ (of_none c.in_ok-write_next.field-0 _ none c.in_ok-write_next.ensures.idle) (rounds g at) (here g at)
    (of_none c.in_ok-write_next.field-0 _ none c.in_ok-write_next.ensures.exhausted)

pub returns-after-loop-clause-way : goal.returns-after-loop-clause-way
returns-after-loop-clause-way g c = spent_at _ _ _ _ _ _ c.loop.counter c.loop.refused c.loop.cache.state (λ z. omega (arith, z)) c.loop.invariant.1

pub loop-preserved : goal.loop-preserved
loop-preserved g c =
    let at = (goal.at.loop-preserved g c).In-Err in
    let some = c.is_none.ensures ∙ ap not c.if-is_none.false in
    let wrote = of_some c.in_ok-write_next.field-0 (λ how. WritesNext c.patch.new.self.state how c.write_next.new.cache.state) some c.in_ok-write_next.ensures.wrote in (
      c.in-Err.ensures.share ∙ c.loop.invariant.0,
      inr (
        c.patch.new.self.state,
        rounds g at,
        record {
          room = c.is_want_of_room.ensures.0 c.if-is_want_of_room.true;
          refused = here g at;
          how = wrote.0;
          written = c.write_next.new.cache.state;
          writes = wrote.1;
          dropped = c.forget.result;
          forgets = c.forget.ensures.step;
        },
      ),
    )
