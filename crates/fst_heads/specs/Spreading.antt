-- How dependants are notified of what is pending of a patch, and what has nothing pending any more goes to disk.
use Rattle.std.specs.Prelude.{◌≡◌, ◌≢◌, ◌⊎◌, ◌<◌, ◌==◌, ◌&&◌, ◌↔◌, ℕ, Bool, true, false, not, List, [], ◌∷◌, map, filter, Contains, AllPairs, if◌then◌else◌}
use Rattle.std.specs.List.{list_any}
use Rattle.fst_types.specs.declared.place.Place.TheVariants as place
use Rattle.fst_types.specs.{Patches.{Kind, Change, Empty, OpenGate, SealedGate}, Cascade.{Follows, unsettled}, Tests.is_among, Writing.{launched, landed}}
use Rattle.fst_heads.specs.declared.pending.Pending.{Pending}
use Rattle.fst_heads.specs.declared.pending.Pending.TheVariants as pending
use Rattle.fst_heads.specs.{Pendings.{Sinks, IsOf, HasIn, Fits, is_pending, of_kind, joined_sums, nothing, plus, minus, sums_of}, Nodes.{Node, pending_in}}

-- an empty patch or a sealed gate
abbrev pub follows : Kind → Bool
follows (Change block at len grade) = false
follows Empty = true
follows OpenGate = false
follows SealedGate = true

-- what is pending of it now, by its sums
abbrev pub now : Node → Pending
now x = of_kind x.patch.kind x.patch.place (joined_sums x.sums)

-- that is what is recorded of it: what its dependants were notified of
abbrev pub is_recorded : Node → Bool
is_recorded x = is_pending (now x) x.pending

-- something was pending of it when its dependants were notified last
abbrev pub is_waiting : Node → Bool
is_waiting x = not (is_pending x.pending pending.Nothing)

-- an empty patch or a sealed gate is on disk where all of its direct dependencies are
abbrev pub rested : Node → Node
rested x = if follows x.patch.kind && (x.sums.count == 0) then record x { patch = record x.patch { place = place.Disk } } else x

-- its sums are updated: one of its direct dependencies has something else pending
abbrev pub updated : Pending → Pending → Node → Node
updated old new x = rested (record x { sums = plus new (minus old x.sums) })

-- that enqueues it: from then on its dependants are to be notified
abbrev pub enqueues : Pending → Pending → Node → Bool
enqueues old new x = is_recorded x && not (is_recorded (updated old new x))

-- those of the row are notified
abbrev pub notified : List ℕ → Pending → Pending → Node → Node
notified row old new x = if is_among row x.patch.number then updated old new x else x

-- those of the row that are enqueued by that
abbrev pub enqueued : List ℕ → Pending → Pending → List Node → List ℕ
enqueued row old new nodes = filter (λ n. list_any (λ x. (x.patch.number == n) && enqueues old new x) nodes) row

-- a node of which old can be taken
abbrev pub CanUpdate : Pending → Node → Type 0
CanUpdate old x = Fits x.sums × HasIn old x.sums

-- what is pending of it now is recorded
abbrev pub recorded : Node → Node
recorded x = record x { pending = now x }

-- a gate is sealed
abbrev pub seals : Node → Node
seals x = rested (record x { patch = record x.patch { kind = SealedGate } })

-- n, if that enqueues it
abbrev pub enqueued_sealed : ℕ → List Node → List ℕ
enqueued_sealed n nodes = if list_any (λ x. (x.patch.number == n) && not (is_recorded (seals x))) nodes then n ∷ [] else []

-- the chosen are in flight
abbrev pub launches : List ℕ → Node → Node
launches chosen x = record x { patch = launched chosen x.patch }

-- what was in flight of the block is on disk
abbrev pub lands : ℕ → Node → Node
lands b x = record x { patch = landed b x.patch }

-- between two steps: the queue has those of which other is pending than is recorded, and what is pending only goes that way
pub record Spreading (goes : Pending → Pending → Type 0) (nodes : List Node) (blocks : ℕ) (queue : List ℕ) : Type 0 where
  pub rising : AllPairs (λ x y. x.patch.number < y.patch.number) nodes
  pub summed : (x : Node) → Contains nodes x → x.sums ≡ sums_of (pending_in nodes) x.patch.dependencies
  pub moves : (x : Node) → Contains nodes x → goes x.pending (now x)
  pub placed : (x : Node) → Contains nodes x → (now x ≡ pending.Nothing) ↔ (x.patch.place ≡ place.Disk)
  pub follow : (x : Node) → Contains nodes x → Follows x.patch.kind → (x.patch.place ≡ place.Memory) ⊎ (x.patch.place ≡ place.Disk)
  pub inside : (x : Node) (b : ℕ) → Contains nodes x → IsOf b x.pending → b < blocks
  pub changes : (x : Node) (b at len : ℕ) (grade : _) → Contains nodes x → x.patch.kind ≡ Change b at len grade → b < blocks
  pub queued : (n : ℕ) → Contains queue n → (x : Node) × Contains nodes x × (x.patch.number ≡ n) × (is_recorded x ≡ false)
  pub waits : (x : Node) → Contains nodes x → is_recorded x ≡ false → Contains queue x.patch.number
  pub once : AllPairs (λ m n. m ≢ n) queue

-- other is pending of x than is recorded, which only sinks, and its sums fit
pub record IsStale (x : Node) : Type 0 where
  pub fits : Fits x.sums
  pub sinks : Sinks x.pending (now x)
  pub stale : is_recorded x ≡ false

-- a node without what is pending of it and below it, and without the place of an empty patch or a sealed gate
abbrev pub unspread : Node → Node
unspread x = record x { patch = unsettled x.patch; sums = nothing; pending = pending.Nothing }

-- only sums, what is pending, and the places of empty patches and sealed gates differ
abbrev pub IsSpreadOf : List Node → List Node → Type 0
IsSpreadOf old new = map unspread new ≡ map unspread old

-- a node without what is pending of it and below it
abbrev pub unrisen : Node → Node
unrisen x = record { patch = x.patch; sums = nothing; pending = pending.Nothing; dependants = x.dependants; forgotten = x.forgotten }

-- only sums and what is pending differ
abbrev pub IsRisenOf : List Node → List Node → Type 0
IsRisenOf old new = map unrisen new ≡ map unrisen old
