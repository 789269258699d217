-- What the graph makes of a call of groups is a row of the state, so the call is one step, and the cache keeps what it keeps.
use Rattle.std.proofs.Common.{◌≤◌, ◌+◌, ℕ, ap}
use Rattle.fst_types.specs.Limits.{max_share}
use Rattle.fst_types.specs.Grouping.{MakesGroup, PutsAfter, ClosesGroup}
use Rattle.fst_types.specs.Events.{GroupNew, GroupAfter, GroupClose, Made, Accepted}
use Rattle.fst_types.specs.Step.{Step, accepted, group, group_new, group_after, group_close}
use Rattle.fst_types.proofs.Bounds.{step_keeps_lawful}
use Rattle.fst_graph.specs.Known.{Known}
use Rattle.fst_graph.specs.Grouping as grouped
use Rattle.fst_cache.specs.declared.cache.Cache.TheInside.{Inside}
use Rattle.fst_cache.specs.Kept.{IsKept, state_of}
use Rattle.fst_cache.proofs.Kept.{with_graph, all_moved}
use Rattle.fst_cache.proofs.GroupSame.{same_new, same_after, same_close}

module _ {Slot : Type 0} (i : Inside Slot) (K : IsKept i) {graph : Known} where
  -- a new group
  module _ (share : ℕ) {number : ℕ} (free : max_share ≤ share + 1 → ⊥) (a : grouped.AddsGroup i.graph number graph) where
    abbrev grown : Inside Slot
    grown = record i { made = i.made + 2; graph = graph }

    new_row : MakesGroup (state_of i) number (state_of grown)
    new_row = record { row = a.row; state = ap (λ (k : Known). state_of (record i { made = i.made + 2; graph = k })) a.state }

    pub step_new : Step (state_of i) (GroupNew share) (Made number) (state_of grown)
    step_new = accepted (free, a.clear) (group (group_new new_row))

    pub kept_new : IsKept grown
    kept_new =
        all_moved i (i.made + 2) graph i.contents K (step_keeps_lawful _ _ (GroupNew share) (Made number) K.lawful step_new)
        (ap (λ (k : Known). k.blocks) a.state) (λ b. same_new _ _ number b new_row)

  -- group n comes after group m
  module _ {n m : ℕ} (a : grouped.PutsAfter i.graph n m graph) where
    after_row : PutsAfter (state_of i) n m (state_of (with_graph i graph))
    after_row = record { row = a.row; state = ap (λ (k : Known). state_of (with_graph i k)) a.state }

    pub step_after : Step (state_of i) (GroupAfter n m) Accepted (state_of (with_graph i graph))
    step_after = accepted a.clear (group (group_after after_row))

    pub kept_after : IsKept (with_graph i graph)
    kept_after =
        all_moved i i.made graph i.contents K (step_keeps_lawful _ _ (GroupAfter n m) Accepted K.lawful step_after)
        (ap (λ (k : Known). k.blocks) a.state) (λ b. same_after _ _ n m b after_row)

  -- group n is closed
  module _ {n : ℕ} (a : grouped.ClosesGroup i.graph n graph) where
    close_row : ClosesGroup (state_of i) n (state_of (with_graph i graph))
    close_row = record { group = a.group; named = a.named; row = a.row; state = ap (λ (k : Known). state_of (with_graph i k)) a.state }

    pub step_close : Step (state_of i) (GroupClose n) Accepted (state_of (with_graph i graph))
    step_close = accepted a.clear (group (group_close close_row))

    pub kept_close : IsKept (with_graph i graph)
    kept_close =
        all_moved i i.made graph i.contents K (step_keeps_lawful _ _ (GroupClose n) Accepted K.lawful step_close)
        (ap (λ (k : Known). k.blocks) a.state) (λ b. same_close _ _ n b K.lawful.heads close_row)
