-- What a change comes after, and what that makes of it: the event, why it is refused, and what the graph prepares and adds.
use Rattle.std.specs.Prelude.{ℕ, Bool, List}
use Rattle.fst_types.specs.{Events.{Event, GroupPatch, MakeChange}, Groups.Group, Order.{group_patch_order, make_order}, Patches.Patch, Refusals.Rule, declared.grade.Grade.Grade}
use Rattle.fst_graph.specs.{Grouping.AddsMember, Known.{AddsChange, Known, Prepared, member_for, prepared_for}}
use Rattle.fst_seat.specs.Names.{numbers_of}
use Rattle.fst_cache.specs.declared.cache.change.After.{After}
use Rattle.fst_cache.specs.declared.cache.change.After.TheVariants.{Named, InGroup}

-- a change of these bytes is asked for
abbrev pub event_after : After → (share b at : ℕ) (bytes : List ℕ) (faulted : Bool) → Event
event_after (Named names) share b at bytes faulted = MakeChange share b at bytes (numbers_of names.now) faulted
event_after (InGroup group) share b at bytes faulted = GroupPatch share group.0 b at bytes faulted

-- why a change of len bytes is refused, once its bytes are right
abbrev pub order_after : After → List Patch → ℕ → List Group → (b at len : ℕ) → List Rule
order_after (Named names) heads numbers groups b at len = make_order heads numbers (numbers_of names.now)
order_after (InGroup group) heads numbers groups b at len = group_patch_order heads numbers groups group.0 b at len

-- what the graph prepares
abbrev pub prepared_after : After → (b at len number : ℕ) → Grade → Prepared
prepared_after (Named names) b at len number grade = prepared_for b at len (numbers_of names.now) number grade
prepared_after (InGroup group) b at len number grade = member_for group.0 b at len number grade

-- what it adds
abbrev pub adds_after : After → Known → (b at len number : ℕ) → Grade → Known → Type 0
adds_after (Named names) old b at len number grade new = AddsChange old b at len (numbers_of names.now) number grade new
adds_after (InGroup group) old b at len number grade new = AddsMember old group.0 b at len number grade new
