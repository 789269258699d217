-- What a graph keeps of its patches and groups together.
use Rattle.std.specs.Prelude.{ℕ, List, IfSome}
use Rattle.fst_types.specs.{Facts.{HeadsAreLawful, GroupsAreLawful}, Groups.{Group, IsGroupNumber}, Order.group_close_order, Refusals.NoneHolds}
use Rattle.fst_graph.specs.{Known.Known, Rows.{AreWhole, whole_known}}

-- group n can get changes
pub record IsUnclosed (groups : List Group) (n : ℕ) : Type 0 where
  pub found : IsGroupNumber groups n
  pub clear : NoneHolds (group_close_order groups n)

-- the patches and the groups are lawful, and what is prepared for a group is for one that can get changes
pub record IsGrouped (known : Known) (groups : List Group) : Type 0 where
  pub lawful : HeadsAreLawful known.heads known.numbers
  pub grouped : GroupsAreLawful known.heads known.numbers groups
  pub prepared : IfSome known.prepared (λ p. IfSome p.group (IsUnclosed groups))

-- the patches with whole rows are lawful beside the groups, and what each head keeps tells the rest
pub record IsHeldWhole (rows : List (ℕ × List ℕ)) (sparse : Known) (groups : List Group) : Type 0 where
  pub whole : AreWhole rows sparse.heads sparse.numbers
  pub grouped : IsGrouped (whole_known rows sparse) groups
