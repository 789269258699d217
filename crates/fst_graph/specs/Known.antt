-- What a graph knows, and what its calls make of it: a row of the definitions among the heads, where no rule refuses, and of the rest what is said here.
use Rattle.std.specs.Prelude.{◌≡◌, ◌≢◌, ◌⊎◌, ℕ, List, [], ◌∷◌, Option, Some, None, Contains}
use Rattle.fst_types.specs.{Dependencies.IsBlocked, Forgetting.DiskIsForgotten, Gating.{GateGains, GateIsSealed}, Groups.{Group, IsGroupGate}, Making.{ChangeIsMade, EmptyIsMade, GateIsMade}}
use Rattle.fst_types.specs.{Order.{room_order, make_order, seal_order, depend_order}, Patches.{Patch, IsOn}, Refusals.{Rule, ◌when◌, IsFirst, NoneHolds}, Writable.{IsInMemoryOn, IsWritable, IsWritableSet}}
use Rattle.fst_types.specs.{Writing.{WriteIsLaunched, WriteIsLanded}, declared.fault.Fault.Fault, declared.grade.Grade.Grade, declared.place.Place.Place}
use Rattle.fst_types.specs.declared.fault.Fault.TheVariants as fault
use Rattle.fst_types.specs.declared.place.Place.TheVariants as place

-- a change that there is room for: its block, its bytes and the names given, the number and the grade that it will have, and the group for which it is made, if there is one
pub record Prepared : Type 0 where
  pub block : ℕ
  pub at : ℕ
  pub len : ℕ
  pub after : List ℕ
  pub number : ℕ
  pub grade : Grade
  pub group : Option ℕ

-- the patches that are not forgotten, the greatest number given, how many blocks there are, the groups, and what is prepared
pub record Known : Type 0 where
  pub heads : List Patch
  pub numbers : ℕ
  pub blocks : ℕ
  pub groups : List Group
  pub prepared : Option Prepared

-- the same with nothing prepared
abbrev pub unprepared : Known → Known
unprepared known = record known { prepared = None }

-- the same with these groups
abbrev pub with_groups : Known → List Group → Known
with_groups known groups = record known { groups = groups }

-- what is prepared for these arguments, to have that number and grade
abbrev pub prepared_for : (b at len : ℕ) (after : List ℕ) (number : ℕ) (grade : Grade) → Prepared
prepared_for b at len after number grade =
    record { block = b; at = at; len = len; after = after; number = number; grade = grade; group = None }

-- what is prepared for group n and these arguments
abbrev pub member_for : (n b at len number : ℕ) (grade : Grade) → Prepared
member_for n b at len number grade =
    record { block = b; at = at; len = len; after = n ∷ []; number = number; grade = grade; group = Some n }

-- the first rule that holds decides, and where none does memory was refused
abbrev pub Refuses : List Rule → Fault → Type 0
Refuses rules f = IsFirst rules f ⊎ (NoneHolds rules × (f ≡ fault.Memory))

-- the gates of groups, whose numbers are given, are none to the calls of gates
abbrev pub outside_groups : List Group → ℕ → List Rule → List Rule
outside_groups groups gate rules = fault.NotGate when IsGroupGate groups gate ∷ rules

-- where a new empty patch with these dependencies is, all of them being live
abbrev pub rest_place : List ℕ → Place
rest_place [] = place.Disk
rest_place (n ∷ ns) = place.Memory

-- a new gate
pub record AddsGate (old : Known) (number : ℕ) (new : Known) : Type 0 where
  pub clear : NoneHolds (room_order old.heads old.numbers)
  pub row : GateIsMade old.heads old.numbers number new.heads
  pub numbers : new.numbers ≡ number
  pub blocks : new.blocks ≡ old.blocks
  pub groups : new.groups ≡ old.groups
  pub prepared : new.prepared ≡ None

-- a new empty patch
pub record AddsEmpty (old : Known) (after : List ℕ) (number : ℕ) (new : Known) : Type 0 where
  pub clear : NoneHolds (make_order old.heads old.numbers after)
  pub row : EmptyIsMade old.heads old.numbers after number new.heads
  pub numbers : new.numbers ≡ number
  pub blocks : new.blocks ≡ old.blocks
  pub groups : new.groups ≡ old.groups
  pub prepared : new.prepared ≡ None

-- an open gate is sealed
pub record SealsGate (old : Known) (gate : ℕ) (new : Known) : Type 0 where
  pub clear : NoneHolds (seal_order old.heads old.numbers gate)
  pub row : GateIsSealed old.heads gate new.heads
  pub numbers : new.numbers ≡ old.numbers
  pub blocks : new.blocks ≡ old.blocks
  pub groups : new.groups ≡ old.groups
  pub prepared : new.prepared ≡ None

-- an open gate gains named patches
pub record DependsGate (old : Known) (g : ℕ) (on : List ℕ) (new : Known) : Type 0 where
  pub clear : NoneHolds (depend_order old.heads old.numbers g on)
  pub row : GateGains old.heads g on new.heads
  pub numbers : new.numbers ≡ old.numbers
  pub blocks : new.blocks ≡ old.blocks
  pub groups : new.groups ≡ old.groups
  pub prepared : new.prepared ≡ None

-- the chosen are in flight
pub record Launches (old : Known) (chosen : List ℕ) (new : Known) : Type 0 where
  pub row : WriteIsLaunched old.heads chosen new.heads
  pub numbers : new.numbers ≡ old.numbers
  pub blocks : new.blocks ≡ old.blocks
  pub groups : new.groups ≡ old.groups
  pub prepared : new.prepared ≡ None

-- what was in flight of the block is on disk
pub record LandsBlock (old : Known) (b : ℕ) (new : Known) : Type 0 where
  pub row : WriteIsLanded old.heads b new.heads
  pub numbers : new.numbers ≡ old.numbers
  pub blocks : new.blocks ≡ old.blocks
  pub groups : new.groups ≡ old.groups
  pub prepared : new.prepared ≡ None

-- the chosen are the writable set of a writable block
pub record MayLaunch (old : Known) (chosen : List ℕ) : Type 0 where
  pub block : ℕ
  pub writable : IsWritable old.heads block
  pub choice : IsWritableSet old.heads block chosen

-- a new change of block b
pub record AddsChange (old : Known) (b at len : ℕ) (after : List ℕ) (number : ℕ) (grade : Grade) (new : Known) : Type 0 where
  pub clear : NoneHolds (make_order old.heads old.numbers after)
  pub row : ChangeIsMade old.heads old.numbers b at len after number grade new.heads
  pub numbers : new.numbers ≡ number
  pub blocks : new.blocks ≡ old.blocks
  pub groups : new.groups ≡ old.groups
  pub prepared : new.prepared ≡ None

-- a new change with these arguments would have that number and grade
abbrev pub Foresees : (old : Known) (b at len : ℕ) (after : List ℕ) (number : ℕ) (grade : Grade) → Type 0
Foresees old b at len after number grade = (new : Known) × AddsChange old b at len after number grade new

-- the patches on disk are forgotten; the answer is how many
pub record Forgets (old : Known) (dropped : ℕ) (new : Known) : Type 0 where
  pub row : DiskIsForgotten old.heads dropped new.heads
  pub numbers : new.numbers ≡ old.numbers
  pub blocks : new.blocks ≡ old.blocks
  pub groups : new.groups ≡ old.groups
  pub prepared : new.prepared ≡ None

-- nothing of block b is in flight
abbrev pub NoneFlies : List Patch → ℕ → Type 0
NoneFlies heads b = (p : Patch) → Contains heads p → IsOn p b → p.place ≢ place.Flight

-- if nothing is in flight, each change in memory waits for an open gate
abbrev pub IsStuckByGates : List Patch → Type 0
IsStuckByGates heads =
    ((p : Patch) → Contains heads p → p.place ≢ place.Flight)
    → (p : Patch) (b : ℕ) → IsInMemoryOn heads b p → IsBlocked heads p.number
