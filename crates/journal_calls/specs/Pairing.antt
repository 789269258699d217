-- Two groups, one after the other.
use Rattle.std.specs.Prelude.{◌≡◌, ◌+◌, ℕ, List, Contains}
use Rattle.fst_types.specs.declared.fault.Fault.{Fault}
use Rattle.fst_types.specs.Events.{GroupNew, GroupAfter, GroupClose, Made, Accepted, Refused, Reply}
use Rattle.fst_types.specs.Groups.{Group, IsGroup}
use Rattle.fst_types.specs.State.{State}
use Rattle.fst_types.specs.Step.{Step}

-- the second was put after the first, and the gate behind it is `tail`
pub record IsPair (groups : List Group) (first second tail : ℕ) : Type 0 where
  pub group : Group
  pub named : IsGroup groups second group
  pub after : Contains group.after first
  pub behind : group.tail ≡ tail

-- a group is made, then another, which is put after the first, and nothing else is done
pub record MakesPair (old : State) (share first second : ℕ) (new : State) : Type 0 where
  pub one : State
  pub makes_first : Step old (GroupNew share) (Made first) one
  pub two : State
  pub makes_second : Step one (GroupNew (share + 2)) (Made second) two
  pub puts : Step two (GroupAfter second first) Accepted new

-- a group can not be made, and one that was made before it is closed again
pub data FailsToPair (old : State) (share : ℕ) (why : Fault) : (new : State) (share' : ℕ) → Type 0 where
  at_first : {new : State} → Step old (GroupNew share) (Refused why) new → FailsToPair old share why new share
  at_second : {one two new : State} {first : ℕ} {reply : Reply} → Step old (GroupNew share) (Made first) one → Step one (GroupNew (share + 2)) (Refused why) two → Step two (GroupClose first) reply new
      → FailsToPair old share why new (share + 2)
  at_last : {one two three four new : State} {first second : ℕ} {reply reply' : Reply} → Step old (GroupNew share) (Made first) one → Step one (GroupNew (share + 2)) (Made second) two
      → Step two (GroupAfter second first) (Refused why) three → Step three (GroupClose second) reply four → Step four (GroupClose first) reply' new → FailsToPair old share why new (share + 4)
