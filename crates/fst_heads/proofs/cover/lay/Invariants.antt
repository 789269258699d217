use Rattle.std.proofs.Common.{◌≡◌, ◌≤◌, ◌+◌, ◌++◌, take, drop}
use Rattle.fst_heads.proofs.cover.lay.Given as goal

-- behind the two, the surplus is gone from there on
abbrev pub invariant-loop-surplus : goal.invariant-loop-surplus
invariant-loop-surplus l = record {
  behind : l.first + 2 ≤ l.surplus;
  items : l.runs.items ≡ take l.surplus l.initial.runs.items ++ drop l.past l.initial.runs.items;
}
