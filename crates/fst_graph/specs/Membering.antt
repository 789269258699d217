-- A new change of a group, of which the patches see the two gates.
use Rattle.std.specs.Prelude.{◌≡◌, ◌+◌, ◌∷◌, [], ℕ, List, None}
use Rattle.fst_types.specs.{Dependencies.DependsOn, Facts.IsTied, Gates.{IsGiven, IsOpenNumber}, Grouping.{GateIsSealedIfOpen, MemberIsMade}, Making.fresh}
use Rattle.fst_types.specs.{Order.room_order, Overlaps.IsOverlapped, Patches.{Change, Patch}, Refusals.{Rule, ◌when◌, NoneHolds}, declared.grade.Grade.Grade}
use Rattle.fst_graph.specs.Known.{Known}
use Rattle.fst_types.specs.declared.grade.Grade.TheVariants as grade
use Rattle.fst_types.specs.declared.fault.Fault.TheVariants as fault

-- a live change that shares one of these bytes of block b depends on the tail
abbrev pub OverlapReaches : List Patch → ℕ → (b at len : ℕ) → Type 0
OverlapReaches heads tail b at len = (p : ℕ) × IsOverlapped heads (fresh 0 (Change b at len grade.Soft) []) p × DependsOn heads p tail

-- the two are the gates of a group that is not closed: the tail is open, and comes after the head
pub record ArePaired (heads : List Patch) (numbers head tail : ℕ) : Type 0 where
  pub given : IsGiven numbers head
  pub tail_open : IsOpenNumber heads tail
  pub tied : IsTied heads tail head
  pub follows : tail ≡ head + 1

-- the heads once gate g is sealed, if it is open
abbrev pub BeginsAs : List Patch → ℕ → List Patch → Type 0
BeginsAs heads g begun = GateIsSealedIfOpen heads g begun

-- a new change of a group with that tail
abbrev pub member_order : List Patch → ℕ → (tail b at len : ℕ) → List Rule
member_order heads numbers tail b at len = fault.Cycle when OverlapReaches heads tail b at len ∷ room_order heads numbers

-- a new change of the group with these gates
pub record GainsMember (old : Known) (head tail b at len number : ℕ) (grade : Grade) (new : Known) : Type 0 where
  pub clear : NoneHolds (member_order old.heads old.numbers tail b at len)
  pub row : MemberIsMade old.heads old.numbers head tail b at len number grade new.heads
  pub state : new ≡ record old { heads = new.heads; numbers = number; prepared = None }

-- whatever such a change would come to, it would have that number and grade
abbrev pub Foretells : (old : Known) (head tail b at len number : ℕ) (grade : Grade) → Type 0
Foretells old head tail b at len number grade =
    (n : ℕ) (g : Grade) (new : Known) → GainsMember old head tail b at len n g new → (n ≡ number) × (g ≡ grade)
