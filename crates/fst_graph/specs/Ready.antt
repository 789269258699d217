-- What is kept of a change that there is room for.
use Rattle.std.specs.Prelude.{◌≡◌, ◌<◌, ◌+◌, ◌++◌, ◌∷◌, [], ℕ, List, Option, Some, None, IfSome, option_map}
use Rattle.fst_types.specs.{Grades.IsGraded, Making.fresh, Order.{make_order, room_order}, Patches.{Change, Patch}, Refusals.NoneHolds}
use Rattle.fst_heads.specs.{Frames.HasRoomBelow, Names.numbers_of, Nodes.HasRoomAbove, Rows.IsSparseRow, declared.head.Head.Head}
use Rattle.fst_levels.specs.WayBack.{LeadsBack}
use Rattle.fst_graph.specs.{Known.Prepared, Membering.{ArePaired, BeginsAs, OverlapReaches}, declared.prepared.Gates.Gates, declared.prepared.Prepared.Prepared as Stored}

-- as contracts see it, its number being the next one
abbrev pub prepared_of : ℕ → Stored → Prepared
prepared_of numbers p =
    record { block = p.block; at = p.span.at; len = p.span.len; after = numbers_of p.names.items; number = numbers + 1; grade = p.told.grade; group = option_map (λ g. g.head) p.gates }

-- the patch that it becomes
abbrev pub change_of : ℕ → Stored → Patch
change_of numbers p = fresh (numbers + 1) (Change p.block p.span.at p.span.len p.told.grade) p.dependencies.items

-- a change with these arguments is not refused, where `kept` are the patches that are not forgotten, and this is what it would be
pub record IsReady (heads kept : List Patch) (numbers blocks : ℕ) (p : Stored) : Type 0 where
  pub clear : NoneHolds (make_order kept numbers (numbers_of p.names.items))
  pub inside : p.block < blocks
  pub depends : IsSparseRow heads (numbers_of p.names.items) p.block p.span.at p.span.len p.dependencies.items
  pub graded : IsGraded heads (heads ++ change_of numbers p ∷ []) p.block (numbers + 1) p.told.grade
  pub back : IfSome p.told.end (LeadsBack heads p.block p.dependencies.items)

-- a change of the group with these gates is not refused, and this is what it would be once the head is sealed, if it is open
pub record IsMemberReady (heads kept : List Patch) (numbers blocks : ℕ) (gates : Gates) (p : Stored) : Type 0 where
  pub made : (begun : List Patch) → BeginsAs heads gates.head begun → IsReady begun kept numbers blocks p
  pub names : numbers_of p.names.items ≡ gates.head ∷ []
  pub apart : OverlapReaches heads gates.tail p.block p.span.at p.span.len → ⊥
  pub room : NoneHolds (room_order kept numbers)
  pub paired : ArePaired heads numbers gates.head gates.tail

-- as it is for a group or for none
abbrev pub IsReadyFor : Option Gates → List Patch → List Patch → ℕ → ℕ → Stored → Type 0
IsReadyFor None heads kept numbers blocks p = IsReady heads kept numbers blocks p
IsReadyFor (Some gates) heads kept numbers blocks p = IsMemberReady heads kept numbers blocks gates p

abbrev pub MayBePut : List Patch → List Patch → ℕ → ℕ → Stored → Type 0
MayBePut heads kept numbers blocks p = IsReadyFor p.gates heads kept numbers blocks p

-- each patch of its row has room for one more dependant, and the tail of its group for one more direct dependency
abbrev pub HasRoomAround : List Head → Stored → Type 0
HasRoomAround heads p = HasRoomAbove heads p.dependencies.items × IfSome p.gates (λ g. HasRoomBelow heads g.tail)
