-- What the fields are once there is room for a change, and once it is prepared.
use Rattle.std.proofs.Common.{◌≡◌, ◌≤◌, ◌<◌, ℕ, List, Option, Some, None, length, map, Contains}
use Rattle.std.specs.Global.{Vec}
use Rattle.fst_types.specs.Patches.{Patch}
use Rattle.fst_heads.specs.{Covers.{AreCovered, Covering}, Heads.patches_of, Lists.entries_of, declared.lists.Listed.Listed}
use Rattle.fst_levels.specs.{Needing.{IsPruned, Needing}, declared.needs.Way.Way}
use Rattle.fst_graph.specs.declared.columns.Columns.{Columns}
use Rattle.fst_graph.specs.declared.sparse.Sparse.TheInside.{Inside}
use Rattle.fst_graph.specs.{Fresh.IsRoomier, Sound.{AreRemembered, AreSound, IsPrepared}, declared.prepared.Prepared.Prepared as Stored}
use Rattle.fst_graph.proofs.{Flagged.roomier_shelf, Sound.{listed_sound, reserved_sound, roomier_sound, with_prepared}}

module _ {s : Inside} (S : AreSound s) {o : Option Stored} (R : AreRemembered s.columns.heads.list.items s.landed s.forgotten o)
    {columns : Columns} {landed : Vec ℕ} (more : IsRoomier s.columns columns) (items : landed.items ≡ s.landed.items) (wide : s.landed.cap ≤ landed.cap) where
  -- room around it
  pub around_sound : AreSound (record s { columns = columns; landed = landed; prepared = None }) × AreRemembered columns.heads.list.items landed s.forgotten None
  around_sound = (roomier_sound S more, roomier_shelf more.nodes items wide R)

  module _ {needs : Needing} {lists : Vec (Vec Listed)} {covers : Vec Covering} (entries : map (λ l. entries_of l.items) lists.items ≡ map (λ l. entries_of l.items) s.lists.items)
      (covered : (hs : List Patch) → AreCovered hs (length s.covers.items) s.covers.items → AreCovered hs (length s.covers.items) covers.items) {b : ℕ} (pruned : IsPruned (patches_of columns.heads.list.items) b s.needs.lists needs.lists) (ways : (w : Way) → Contains needs.ways w → Contains s.needs.ways w) where
    -- and in its block
    pub inside_sound : AreSound (record s { columns = columns; needs = needs; lists = lists; covers = covers; landed = landed; prepared = None }) × AreRemembered columns.heads.list.items landed s.forgotten None
    inside_sound = (reserved_sound (listed_sound around_sound.0 entries covered) {kept = needs} pruned ways, around_sound.1)

    -- and it is prepared
    pub ready_sound : (p : Stored) → IsPrepared (record s { columns = columns; needs = needs; lists = lists; covers = covers; landed = landed; prepared = Some p }) p → length columns.heads.list.items < landed.cap
        → AreSound (record s { columns = columns; needs = needs; lists = lists; covers = covers; landed = landed; prepared = Some p }) × AreRemembered columns.heads.list.items landed s.forgotten (Some p)
    ready_sound p P shelf =
        let K = inside_sound.1 in
        (with_prepared inside_sound.0 {o' = Some p} P, record { counted = K.counted; few = K.few; told = K.told; shelf = K.shelf; spare = shelf })
