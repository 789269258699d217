-- What the patches keep of their fields between two calls.
use Rattle.std.specs.Prelude.{◌≡◌, ◌≤◌, ◌<◌, ◌+◌, ℕ, [], List, slice_index_or, Option, IfSome, option_map, length, map, count_by, vec_len, vec_capacity}
use Rattle.std.specs.Global.{Vec}
use Rattle.fst_types.specs.{Limits.max_heads, Patches.Patch}
use Rattle.fst_heads.specs.{Covers.{AreCovered, Covering, HasRoomForRuns}, Heads.patches_of, Keeps.{Beside, Keeps, Tallies}, Landed.AreLanded, Lists.{entries_of, HasRoomInList}}
use Rattle.fst_heads.specs.{Nodes.{is_forgotten_in, nodes_of}, declared.head.Head.Head}
use Rattle.fst_levels.specs.{Leveling.{IsLeveled}, Needing.{HaveGivenEnds, IsNeeding}}
use Rattle.fst_walks.specs.declared.ends.Ends.{Ends}
use Rattle.fst_graph.specs.declared.sparse.Sparse.TheInside.{Inside}
use Rattle.fst_graph.specs.{Fresh.HasPlaces, Known.Known, Ready.{MayBePut, HasRoomAround, prepared_of}, Remembered.remembered, declared.prepared.Prepared.Prepared as Stored}

-- the patches that are not forgotten, out of those whose heads are kept
abbrev pub remembered_of : List Head → List Patch
remembered_of heads = remembered (is_forgotten_in (nodes_of heads)) (patches_of heads)

-- what contracts see
abbrev pub view_of : Inside → Known
view_of s = record { heads = remembered_of s.columns.heads.list.items; numbers = s.numbers; blocks = s.blocks; groups = []; prepared = option_map (prepared_of s.numbers) s.prepared }

-- so many are forgotten, of the others there are no more than there may be heads, and those that landed are told, with a place for each head and for what is prepared
pub record AreRemembered (heads : List Head) (landed : Vec ℕ) (forgotten : ℕ) (stored : Option Stored) : Type 0 where
  pub counted : forgotten ≡ count_by (λ x. x.forgotten) (nodes_of heads)
  pub few : length heads ≤ forgotten + max_heads
  pub told : AreLanded (nodes_of heads) landed.items
  pub shelf : length heads ≤ vec_capacity landed
  pub spare : IfSome stored (λ p. length heads < vec_capacity landed)

-- the walk down is over the same heads and blocks as the walk up
pub record AreAlong (ends : Ends) : Type 0 where
  pub marks : length ends.down.walk.marks ≡ length ends.up.walk.marks
  pub places : length ends.down.crossed.items ≡ length ends.up.crossed.items

-- a change that is prepared is not refused, and whatever it is put into has a free place for it
pub record IsPrepared (s : Inside) (p : Stored) : Type 0 where
  pub ready : MayBePut (patches_of s.columns.heads.list.items) (remembered_of s.columns.heads.list.items) s.numbers s.blocks p
  pub places : HasPlaces 1 s.columns
  pub waits : vec_len s.columns.heads.list < vec_capacity s.columns.queue
  pub around : HasRoomAround s.columns.heads.list.items p
  pub runs : (d : Covering) → HasRoomForRuns (slice_index_or s.covers.items p.block d)
  pub in_list : HasRoomInList (map (λ l. vec_len l) s.lists.items) (map (λ l. vec_capacity l) s.lists.items) p.block
  pub needed : (s.needs.block ≡ p.block) × (length p.dependencies.items ≤ s.needs.room)

-- the heads are lawful patches, what stands beside them tells of them, and there is room for what is prepared
pub record AreSound (s : Inside) : Type 0 where
  pub keeps : Keeps (patches_of s.columns.heads.list.items) s.numbers s.blocks s.columns.ends.up.walk.marks
  pub beside : Beside (patches_of s.columns.heads.list.items) s.blocks s.live s.columns.ends.up.crossed.items
  pub tallies : Tallies (nodes_of s.columns.heads.list.items) s.numbers s.blocks (map (λ l. entries_of l.items) s.lists.items) s.standings s.columns.queue.items (vec_capacity s.columns.queue)
  pub covered : AreCovered (patches_of s.columns.heads.list.items) s.blocks s.covers.items
  pub along : AreAlong s.columns.ends
  pub leveled : IsLeveled (patches_of s.columns.heads.list.items) s.blocks s.columns.levels
  pub needing : IsNeeding (patches_of s.columns.heads.list.items) s.blocks s.needs
  pub given : HaveGivenEnds s.numbers s.needs.ways
  pub prepared : IfSome s.prepared (IsPrepared s)
