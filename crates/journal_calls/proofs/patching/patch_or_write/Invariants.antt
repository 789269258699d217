use Rattle.std.proofs.Common.{◌≡◌, ◌⊎◌}
use Rattle.fst_types.specs.State.{State}
use Rattle.fst_cache.specs.Names.{numbers_of}
use Rattle.journal_calls.specs.Making.{change_of, Rounds, Round}
use Rattle.journal_calls.proofs.patching.patch_or_write.Given as goal

-- nothing was made yet: no round was, or the last one wanted for this
abbrev pub invariant-loop : goal.invariant-loop
invariant-loop g l =
    let ask = change_of l.fn.share l.fn.block.0 l.fn.at l.fn.bytes (numbers_of l.fn.after) in
    (l.share ≡ l.fn.share) × (((l.counter ≡ 0) × (l.cache.state ≡ l.fn.cache.state)) ⊎ ((s : State) × Rounds ask l.fn.cache.state s × Round ask s l.refused l.cache.state))
