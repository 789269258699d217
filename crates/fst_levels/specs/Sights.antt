-- What walks look at is as it should be.
use Rattle.std.specs.Prelude.{length, map}
use Rattle.fst_types.specs.{Closure.IsAcyclic, Dependencies.DirectlyOn, Facts.{FlightsStandAlone, IsOnDiskWithAll, HardNeverHold}}
use Rattle.fst_heads.specs.{Covers.AreCovered, Heads.patches_of, Keeps.IsInside, Lists.{entries_of, AreListed}}
use Rattle.fst_heads.specs.Nodes.{nodes_of, AreLinked, AreSettled}
use Rattle.fst_levels.specs.{Leveling.IsLeveled, Needing.IsNeeding, declared.sight.Sight.Sight}

-- the patches are as the definitions want them, and what stands beside them tells of them
pub record Sees (sight : Sight) : Type 0 where
  pub inside : IsInside (patches_of sight.heads.now.list.items) (length sight.lists.now)
  pub disk : IsOnDiskWithAll (patches_of sight.heads.now.list.items)
  pub flights : FlightsStandAlone (patches_of sight.heads.now.list.items)
  pub hard : HardNeverHold (patches_of sight.heads.now.list.items)
  pub acyclic : IsAcyclic (DirectlyOn (patches_of sight.heads.now.list.items))
  pub linked : AreLinked (nodes_of sight.heads.now.list.items)
  pub settled : AreSettled (nodes_of sight.heads.now.list.items) (length sight.lists.now)
  pub listed : AreListed (patches_of sight.heads.now.list.items) (length sight.lists.now) (map (λ l. entries_of l.items) sight.lists.now)
  pub covered : AreCovered (patches_of sight.heads.now.list.items) (length sight.lists.now) sight.covers.now
  pub leveled : IsLeveled (patches_of sight.heads.now.list.items) (length sight.lists.now) sight.levels.now
  pub needing : IsNeeding (patches_of sight.heads.now.list.items) (length sight.lists.now) sight.needs.now
