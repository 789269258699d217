use Rattle.fst_levels.specs.Needing.{needs_of}
use Rattle.fst_walks.proofs.Traced.{IsTraced}
use Rattle.fst_walks.proofs.trace.trace.Given as goal

abbrev pub invariant-loop : goal.invariant-loop
invariant-loop l = IsTraced l.sight.heads.now.list.items (needs_of l.sight.needs.now.lists) l.block l.index l.at
