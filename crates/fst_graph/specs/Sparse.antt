-- New changes of which not the whole row is kept, but so much of it that the rest is below what is kept.
use Rattle.std.specs.Prelude.{◌≡◌, ◌+◌, ◌++◌, ◌∷◌, [], ℕ, List, None}
use Rattle.fst_types.specs.{Gating.GateGains, Grades.IsGraded, Grouping.GateIsSealedIfOpen, Making.fresh, Order.make_order, Patches.{Change, Patch}, Refusals.NoneHolds, declared.grade.Grade.Grade}
use Rattle.fst_heads.specs.Rows.{IsSparseRow}
use Rattle.fst_graph.specs.{Known.Known, Membering.member_order}

-- a new change of block b among the heads with a sparse row, which is hard exactly if it may be
pub record SparseChangeIsMade (heads : List Patch) (numbers b at len : ℕ) (after : List ℕ) (number : ℕ) (grade : Grade) (later : List Patch) : Type 0 where
  pub next : number ≡ numbers + 1
  pub dependencies : List ℕ
  pub sparse : IsSparseRow heads after b at len dependencies
  pub added : later ≡ heads ++ fresh number (Change b at len grade) dependencies ∷ []
  pub graded : IsGraded heads later b number grade

-- a new change of block b
pub record AddsSparse (old : Known) (b at len : ℕ) (after : List ℕ) (number : ℕ) (grade : Grade) (new : Known) : Type 0 where
  pub clear : NoneHolds (make_order old.heads old.numbers after)
  pub row : SparseChangeIsMade old.heads old.numbers b at len after number grade new.heads
  pub numbers : new.numbers ≡ number
  pub blocks : new.blocks ≡ old.blocks
  pub groups : new.groups ≡ old.groups
  pub prepared : new.prepared ≡ None

-- a new change with these arguments would have that number and grade
abbrev pub ForeseesSparse : (old : Known) (b at len : ℕ) (after : List ℕ) (number : ℕ) (grade : Grade) → Type 0
ForeseesSparse old b at len after number grade = (new : Known) × AddsSparse old b at len after number grade new

-- a new change for the group with these gates: its head is sealed if it is open, the change is made after the head, and its tail depends on the change
pub record SparseMemberIsMade (heads : List Patch) (numbers head tail b at len number : ℕ) (grade : Grade) (later : List Patch) : Type 0 where
  pub begun : List Patch
  pub begin : GateIsSealedIfOpen heads head begun
  pub with_change : List Patch
  pub change : SparseChangeIsMade begun numbers b at len (head ∷ []) number grade with_change
  pub tie : GateGains with_change tail (number ∷ []) later

-- a new change of the group with these gates
pub record GainsSparse (old : Known) (head tail b at len number : ℕ) (grade : Grade) (new : Known) : Type 0 where
  pub clear : NoneHolds (member_order old.heads old.numbers tail b at len)
  pub row : SparseMemberIsMade old.heads old.numbers head tail b at len number grade new.heads
  pub state : new ≡ record old { heads = new.heads; numbers = number; prepared = None }

-- however its head is sealed, a new change of the group with that head would have that number and grade
abbrev pub ForetellsSparse : (old : Known) (head b at len number : ℕ) (grade : Grade) → Type 0
ForetellsSparse old head b at len number grade =
    (begun : List Patch) → GateIsSealedIfOpen old.heads head begun → (later : List Patch) × SparseChangeIsMade begun old.numbers b at len (head ∷ []) number grade later
