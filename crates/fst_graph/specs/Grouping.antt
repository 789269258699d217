-- What the calls of groups make of what a graph knows.
use Rattle.std.specs.Prelude.{◌≡◌, ◌+◌, ◌≤◌, ◌⊎◌, ℕ, length, List, [], ◌∷◌, None}
use Rattle.fst_types.specs.Grouping.{GateIsSealedIfOpen, GroupIsMade, GroupIsPutAfter, MemberIsMade, GroupIsClosed, with_new, put_after, with_member, with_closed}
use Rattle.fst_types.specs.{Groups.{Group, IsGroup, IsGroupNumber}, Limits.{max_heads, max_number}, Order.{IsClosedGroup, HasMember, group_new_order, group_after_order, group_patch_order, group_close_order}}
use Rattle.fst_types.specs.{Patches.Patch, Refusals.{Rule, ◌when◌, NoneHolds}, declared.grade.Grade.Grade}
use Rattle.fst_graph.specs.Known.{Known}
use Rattle.fst_types.specs.declared.fault.What.TheVariants as what
use Rattle.fst_types.specs.declared.fault.Fault.TheVariants as fault

-- gate g is sealed, if it is open
pub record SealsIfOpen (old : Known) (g : ℕ) (new : Known) : Type 0 where
  pub row : GateIsSealedIfOpen old.heads g new.heads
  pub state : new ≡ record old { heads = new.heads; prepared = None }

-- two new patches
abbrev pub pair_order : List Patch → ℕ → List Rule
pair_order heads numbers = fault.Full what.Heads when (max_heads ≤ length heads + 1) ∷ fault.Full what.Numbers when (max_number ≤ numbers + 1) ∷ []

-- two new gates, the second of which depends on the first
pub record AddsPair (old : Known) (number : ℕ) (new : Known) : Type 0 where
  pub clear : NoneHolds (pair_order old.heads old.numbers)
  pub row : GroupIsMade old.heads old.numbers number new.heads
  pub state : new ≡ record old { heads = new.heads; numbers = number + 1; prepared = None }

-- a new group
pub record AddsGroup (old : Known) (number : ℕ) (new : Known) : Type 0 where
  pub clear : NoneHolds (group_new_order old.heads old.numbers old.groups)
  pub row : GroupIsMade old.heads old.numbers number new.heads
  pub state : new ≡ record old { heads = new.heads; numbers = number + 1; groups = with_new old.groups number; prepared = None }

-- why group n cannot be put after group m, whatever depends on what
abbrev pub unstarted_order : List Group → ℕ → ℕ → List Rule
unstarted_order groups n m =
    fault.NoPatch when ((IsGroupNumber groups n → ⊥) ⊎ (IsGroupNumber groups m → ⊥))
    ∷ fault.Sealed when IsClosedGroup groups n ∷ fault.GroupBegun when HasMember groups n ∷ []

-- group n is put after group m
pub record PutsAfter (old : Known) (n m : ℕ) (new : Known) : Type 0 where
  pub clear : NoneHolds (group_after_order old.heads old.groups n m)
  pub row : GroupIsPutAfter old.heads old.groups n m new.heads
  pub state : new ≡ record old { heads = new.heads; groups = put_after old.groups n m; prepared = None }

-- a new change for group n
pub record AddsMember (old : Known) (n b at len number : ℕ) (grade : Grade) (new : Known) : Type 0 where
  pub clear : NoneHolds (group_patch_order old.heads old.numbers old.groups n b at len)
  pub group : Group
  pub named : IsGroup old.groups n group
  pub row : MemberIsMade old.heads old.numbers n group.tail b at len number grade new.heads
  pub state : new ≡ record old { heads = new.heads; numbers = number; groups = with_member old.groups n number; prepared = None }

-- a new change for group n with these arguments would have that number and grade
abbrev pub ForeseesMember : (old : Known) (n b at len number : ℕ) (grade : Grade) → Type 0
ForeseesMember old n b at len number grade = (k : ℕ) (g : Grade) (new : Known) → AddsMember old n b at len k g new → (k ≡ number) × (g ≡ grade)

-- group n is closed
pub record ClosesGroup (old : Known) (n : ℕ) (new : Known) : Type 0 where
  pub clear : NoneHolds (group_close_order old.groups n)
  pub group : Group
  pub named : IsGroup old.groups n group
  pub row : GroupIsClosed old.heads n group.tail new.heads
  pub state : new ≡ record old { heads = new.heads; groups = with_closed old.groups n; prepared = None }
