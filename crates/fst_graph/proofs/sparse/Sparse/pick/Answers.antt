use Rattle.std.proofs.Common.{◌≡◌, ℕ, List, Option, Some, None, MatchOption, IfNone, length, option_map, refl, subst, arith}
use Rattle.fst_types.specs.{Looks.IsPick, Patches.Patch, declared.number.BlockNo.BlockNo}
use Rattle.fst_heads.specs.{Heads.patches_of, Keeps.IsInside, Standings.{AreMarked, IsLeastMarked, NoneMarked}, declared.standing.Standing.Standing}
use Rattle.fst_heads.proofs.AtNumber.{patches_in_nodes}
use Rattle.fst_graph.proofs.{Flagged.unspared, Marking.{picked_none, picked_some, stuck_by_gates}, RememberedLooks.{pick, stuck}, Sound.{view_gone, with_prepared}}
use Rattle.fst_graph.proofs.sparse.Sparse.pick.Goals as goal

-- what holds where there is none
none_stuck : {A : Type 0} (r : Option BlockNo) → (r ≡ None → A) → IfNone r A
none_stuck None holds = holds refl
none_stuck (Some b) holds = tt

-- the least block whose mark is true is the pick
picked : (patches : List Patch) (standings : List Standing) (blocks : ℕ) (r : Option BlockNo) → length standings ≡ blocks → IsInside patches blocks → AreMarked patches blocks standings
    → MatchOption r (NoneMarked standings 0 (length standings)) (λ no. IsLeastMarked standings 0 (length standings) no.0)
    → IsPick patches (option_map (λ b. b.0) r)
picked patches standings blocks None long inside M none = picked_none patches blocks standings inside M (λ b d lt. none b d (omega arith) (omega (arith, lt, long)))
picked patches standings blocks (Some b) long inside M least = picked_some patches blocks b.0 standings M (omega (arith, least.before, long)) least.marked (λ c d lt. least.least c d (omega arith) lt)

pub returns : goal.returns
returns c =
    let s = c.self.inside in
    let old = patches_of s.columns.heads.list.items in
    let T = c.self.invariant.0.tallies in
    let K = c.self.invariant.0.keeps in
    let G = view_gone c.self.invariant in
    let M = subst (λ ps. AreMarked ps s.blocks s.standings) (patches_in_nodes s.columns.heads.list.items) T.marked in
    let found = picked old s.standings s.blocks c.least_marked.result T.standing.long K.inside M c.least_marked.ensures.least in
    record {
      least = rw (← c.self.view_is) (pick _ old G K.lawful.on_disk_with_all (option_map (λ b. b.0) c.least_marked.result) found);
      never_stuck = rw (← c.self.view_is) (none_stuck c.least_marked.result (λ none. stuck _ old G K.lawful.on_disk_with_all (stuck_by_gates old None K.lawful.no_cycle K.lawful.hard_never_hold (subst (λ r. IsPick old (option_map (λ b. b.0) r)) none found))));
      same = rw (← c.self.view_is, c.let_go.ensures) refl;
    }

pub invariant_of-self : goal.invariant_of-self
invariant_of-self c = rw (c.let_go.ensures, c.least_marked.ensures.same) (with_prepared c.self.invariant.0 tt, unspared c.self.invariant.1)
