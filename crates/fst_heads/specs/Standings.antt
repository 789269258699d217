-- How each block stands.
use Rattle.std.specs.Prelude.{◌≡◌, ◌<◌, ◌≤◌, ◌==◌, ◌&&◌, ◌↔◌, ◌+◌, ◌-◌, ◌/◌, ℕ, Bool, true, false, not, List, map, filter, length, count_by, All, IsTrue, slice_index_or, if◌then◌else◌}
use Rattle.fst_types.specs.declared.place.Place.TheVariants as place
use Rattle.fst_types.specs.{Patches.Patch, Tests.is_change_at, Writable.IsWritable}
use Rattle.fst_heads.specs.declared.pending.Pending.TheVariants as pending
use Rattle.fst_heads.specs.declared.standing.Standing.{Standing}
use Rattle.fst_heads.specs.{Nodes.Node, Pendings.is_pending, Stretches.{LieIn, nowhere, widened}, Tests.is_hard_kind}

-- a change of b in memory that waits for such changes alone
abbrev pub is_ready_on : ℕ → Node → Bool
is_ready_on b x = is_change_at place.Memory b x.patch && is_pending x.pending (pending.Block b)

-- a hard change of b in memory that waits for more
abbrev pub is_held_on : ℕ → Node → Bool
is_held_on b x = is_change_at place.Memory b x.patch && is_hard_kind x.patch.kind && not (is_pending x.pending (pending.Block b))

-- a change of b in flight
abbrev pub is_flying_on : ℕ → Node → Bool
is_flying_on b x = is_change_at place.Flight b x.patch

-- the numbers of those
abbrev pub ready_on : ℕ → List Node → List ℕ
ready_on b nodes = map (λ x. x.patch.number) (filter (is_ready_on b) nodes)

abbrev pub held_on : ℕ → List Node → List ℕ
held_on b nodes = map (λ x. x.patch.number) (filter (is_held_on b) nodes)

-- a standing with as many of each as the block has
abbrev pub standing_of : List Node → ℕ → Standing → Standing
standing_of nodes b s = record s { ready = count_by (is_ready_on b) nodes; held = count_by (is_held_on b) nodes; flying = count_by (is_flying_on b) nodes }

-- of block b, none with a lesser number is held
abbrev pub NoneHeldBelow : List Node → ℕ → ℕ → Type 0
NoneHeldBelow nodes b from = All (λ x. IsTrue (is_held_on b x) → from ≤ x.patch.number) nodes

-- those of block b have the numbers that its standing tells
pub record LieAsTold (nodes : List Node) (b : ℕ) (s : Standing) : Type 0 where
  pub held : NoneHeldBelow nodes b s.held_from
  pub ready : LieIn (is_ready_on b) nodes s.ready_in
  pub flying : LieIn (is_flying_on b) nodes s.flying_in

pub record AllStand (nodes : List Node) (blocks : ℕ) (standings : List Standing) : Type 0 where
  pub long : length standings ≡ blocks
  pub each : (b : ℕ) (d : Standing) → b < blocks → slice_index_or standings b d ≡ standing_of nodes b (slice_index_or standings b d)
  pub lie : (b : ℕ) (d : Standing) → b < blocks → LieAsTold nodes b (slice_index_or standings b d)

-- the mark of a block
abbrev pub may_be_written : Standing → Bool
may_be_written s = (s.flying == 0) && (s.held == 0) && not (s.ready == 0)

-- of the blocks from the first on, and before the end, none has a true mark
abbrev pub NoneMarked : List Standing → ℕ → ℕ → Type 0
NoneMarked standings first end = (b : ℕ) (d : Standing) → first ≤ b → b < end → may_be_written (slice_index_or standings b d) ≡ false

-- b is the least of them that has one
pub record IsLeastMarked (standings : List Standing) (first end b : ℕ) : Type 0 where
  pub from : first ≤ b
  pub before : b < end
  pub marked : (d : Standing) → may_be_written (slice_index_or standings b d) ≡ true
  pub least : NoneMarked standings first b

-- of each sixty-four blocks it is told where one of them has a true mark; more of them may be told of
pub record AreTold (standings : List Standing) (told : List Bool) : Type 0 where
  pub few : length standings ≤ 4294967295
  pub long : length told ≡ length standings / 64 + 1
  pub marked : (b : ℕ) (d : Standing) (none : Bool) → b < length standings → may_be_written (slice_index_or standings b d) ≡ true → slice_index_or told (b / 64) none ≡ true

-- the mark of each block is true exactly where it is writable
abbrev pub AreMarked : List Patch → ℕ → List Standing → Type 0
AreMarked patches blocks standings = (b : ℕ) (d : Standing) → b < blocks → IsTrue (may_be_written (slice_index_or standings b d)) ↔ IsWritable patches b

-- as a block without changes stands
abbrev pub without_changes : Standing
without_changes = record { ready = 0; held = 0; flying = 0; held_from = 0; ready_in = nowhere; flying_in = nowhere }

-- with a change more that is ready, which has the number
abbrev pub readied : ℕ → Standing → Standing
readied number s = record s { ready = s.ready + 1; ready_in = widened number s.ready_in }

-- with a change more that is ready now, which has the number and was held if it is hard
abbrev pub released : Bool → ℕ → Standing → Standing
released true number s = record s { ready = s.ready + 1; held = s.held - 1; ready_in = widened number s.ready_in }
released false number s = readied number s

-- with a new change in memory that has the number, the greatest, and is hard or not, and ready or not
abbrev pub entered : Bool → Bool → ℕ → Standing → Standing
entered hard true number s = readied number s
entered true false number s = record s { held = s.held + 1; held_from = if s.held == 0 then number else s.held_from }
entered false false number s = s

-- with what was ready in flight
abbrev pub sent : Standing → Standing
sent s = record s { ready = 0; flying = s.ready; ready_in = nowhere; flying_in = s.ready_in }

-- with nothing in flight any more
abbrev pub arrived : Standing → Standing
arrived s = record s { flying = 0; flying_in = nowhere }
