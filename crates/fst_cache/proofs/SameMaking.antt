-- A new patch that is no change is one step, and the cache keeps what it keeps.
use Rattle.std.proofs.Common.{◌≤◌, ◌+◌, ℕ, List, [], map, refl, ap}
use Rattle.fst_types.specs.Limits.{max_share}
use Rattle.fst_types.specs.Patches.{Empty, OpenGate}
use Rattle.fst_types.specs.Cascade.{unsettled}
use Rattle.fst_types.specs.Events.{MakeEmpty, MakeGate, Made}
use Rattle.fst_types.specs.Making.{fresh, MakesGate}
use Rattle.fst_types.specs.Step.{Step, accepted, empty, gate}
use Rattle.fst_types.proofs.Bounds.{step_keeps_lawful}
use Rattle.fst_graph.specs.Known.{Known, AddsEmpty, AddsGate}
use Rattle.fst_cache.specs.declared.cache.Cache.TheInside.{Inside}
use Rattle.fst_cache.specs.Kept.{IsKept, state_of}
use Rattle.fst_cache.proofs.Kept.{all_moved}
use Rattle.fst_cache.proofs.SameAdding.{same_added}

-- the cache with one patch more, which its graph has
abbrev made : {Slot : Type 0} → Inside Slot → Known → Inside Slot
made i graph = record i { made = i.made + 1; graph = graph }

module _ {Slot : Type 0} (i : Inside Slot) (K : IsKept i) {graph : Known} (share : ℕ) {number : ℕ} (free : max_share ≤ share → ⊥) where
  pub step_empty : {names : List ℕ} → AddsEmpty i.graph names number graph → Step (state_of i) (MakeEmpty share names) (Made number) (state_of (made i graph))
  step_empty a = accepted (free, a.clear) (empty (record { row = a.row; state = rw (a.numbers, a.groups) refl }))

  pub kept_empty : {names : List ℕ} → AddsEmpty i.graph names number graph → IsKept (made i graph)
  kept_empty {names} a =
      all_moved i (i.made + 1) graph i.contents K (step_keeps_lawful (state_of i) (state_of (made i graph)) (MakeEmpty share names) (Made number) K.lawful (step_empty a)) a.blocks
      (λ b. same_added (state_of i) (state_of (made i graph)) b (fresh number Empty a.row.dependencies) refl a.row.cascade.same refl refl)

  gate_row : AddsGate i.graph number graph → MakesGate (state_of i) number (state_of (made i graph))
  gate_row a = record { row = a.row; state = rw (a.numbers, a.groups) refl }

  pub step_gate : AddsGate i.graph number graph → Step (state_of i) (MakeGate share) (Made number) (state_of (made i graph))
  step_gate a = accepted (free, a.clear) (gate (gate_row a))

  pub kept_gate : AddsGate i.graph number graph → IsKept (made i graph)
  kept_gate a =
      all_moved i (i.made + 1) graph i.contents K (step_keeps_lawful (state_of i) (state_of (made i graph)) (MakeGate share) (Made number) K.lawful (step_gate a)) a.blocks
      (λ b. same_added (state_of i) (state_of (made i graph)) b (fresh number OpenGate []) refl (ap (map unsettled) a.row.added) refl refl)
