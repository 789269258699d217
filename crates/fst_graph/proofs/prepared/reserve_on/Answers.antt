use Rattle.std.proofs.Common.{◌+◌, ◌≤◌, rules, arith, OnOk, Result, Ok, Err, subst}
use Rattle.fst_heads.specs.Covers.{SaysTheSame}
use Rattle.fst_heads.proofs.Covering.{covered_same}
use Rattle.fst_levels.proofs.Shelves.{shelved_same, room_in_list}
use Rattle.fst_graph.proofs.prepared.reserve_on.Goals as goal

pub returns-in_err-reserve-clause-entries : goal.returns-in_err-reserve-clause-entries
returns-in_err-reserve-clause-entries c = shelved_same c.args.lists.now.items c.args.block c.index_mut.result.now c.reserve.new.self c.index_mut.ensures.value c.reserve.ensures.items

pub returns-clause-entries : goal.returns-clause-entries
returns-clause-entries c = shelved_same c.args.lists.now.items c.args.block c.index_mut.result.now c.reserve.new.self c.index_mut.ensures.value c.reserve.ensures.items

pub returns-clause-covered : goal.returns-clause-covered
returns-clause-covered c heads C =
    covered_same heads _ c.args.covers.now.items C c.args.block c.reserve-2.new.self c.index_mut-2.result.now c.requires.cover (subst (λ d. SaysTheSame d c.reserve-2.new.self) c.index_mut-2.ensures.value c.reserve-2.ensures.same)

pub returns-clause-in_list : goal.returns-clause-in_list
returns-clause-in_list c =
    let free : c.reserve.new.self.len + 1 ≤ c.reserve.new.self.cap = search rules in
    always c.reserve-2.result (room_in_list c.args.lists.now.items c.args.block c.reserve.new.self c.requires.list (omega (arith, free)))
  where
    always : {A E : Type 0} {P : Type 0} (r : Result A E) → P → OnOk r P
    always (Ok a) p = p
    always (Err e) p = tt
