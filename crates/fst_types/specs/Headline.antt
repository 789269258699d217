-- The headline: what holds whenever the cache's lock is free.
use Rattle.std.specs.Prelude.{◌≡◌, ◌≢◌, ◌⊎◌, ℕ, Bool, true, List, [], Some, Contains, AllPairs, if◌then◌else◌}
use Rattle.fst_types.specs.declared.place.Place.{Place}
use Rattle.fst_types.specs.declared.place.Place.TheVariants as place
use Rattle.fst_types.specs.Closure.{IsAcyclic}
use Rattle.fst_types.specs.Patches.{Patch, IsOpenGate}
use Rattle.fst_types.specs.Dependencies.{DirectlyOn, DependsOn, Needs, IsBlocked, IsClosed, IsOnDisk}
use Rattle.fst_types.specs.Gates.{IsGiven}
use Rattle.fst_types.specs.State.{Flight, State, committed, flight_of}
use Rattle.fst_types.specs.Bytes.{changes_at, fold_of}
use Rattle.fst_types.specs.Facts.{IsInFlightOn, IsLawful}
use Rattle.fst_types.specs.Crash.{crash, IsLeft}
use Rattle.fst_types.specs.Run.{Call, Run, settled_in}

-- a number has at most one head
abbrev pub OneHeadEach : List Patch → Type 0
OneHeadEach heads = (p q : Patch) → Contains heads p → Contains heads q → p.number ≡ q.number → p ≡ q

-- number n has a place: that of its head, or, where it was forgotten, disk
pub data HasPlace (heads : List Patch) (n : ℕ) : Place → Type 0 where
  stands : {p : Patch} → Contains heads p → p.number ≡ n → HasPlace heads n p.place
  forgotten : ((p : Patch) → Contains heads p → p.number ≢ n) → HasPlace heads n place.Disk

-- each patch, which is each number given, is in memory, in flight or on disk, and in one of them alone
abbrev pub OnePlaceEach : List Patch → ℕ → Type 0
OnePlaceEach heads numbers = (n : ℕ) → IsGiven numbers n → (at : Place) × HasPlace heads n at × ((other : Place) → HasPlace heads n other → other ≡ at)

-- an open gate is in memory
abbrev pub OpenGatesWait : List Patch → Type 0
OpenGatesWait heads = (p : Patch) → Contains heads p → IsOpenGate p → p.place ≡ place.Memory

-- a patch on disk has all that it depends on there, directly or through others
abbrev pub DiskHasAll : List Patch → Type 0
DiskHasAll heads = (n m : ℕ) → IsOnDisk heads n → DependsOn heads n m → IsOnDisk heads m

-- the patches of a write have what they need on disk or in that write
abbrev pub WritesStandAlone : List Patch → Type 0
WritesStandAlone heads = (b : ℕ) (p : Patch) → IsInFlightOn heads b p → (q : Patch) (c : ℕ) → Needs heads p.number q c → (q.place ≡ place.Disk) ⊎ IsInFlightOn heads b q

-- and none of them depends on an open gate
abbrev pub WritesAreFree : List Patch → Type 0
WritesAreFree heads = (b : ℕ) (p : Patch) → IsInFlightOn heads b p → IsBlocked heads p.number → ⊥

-- a crash that finishes any of the writes in flight leaves a closed set
abbrev pub CrashIsClosed : State → Type 0
CrashIsClosed s = (finished : ℕ → Bool) → IsClosed s.heads (IsLeft s finished)

-- and each block holds its base with exactly the patches that the crash leaves of it
abbrev pub BlocksHoldBase : State → Type 0
BlocksHoldBase s = (finished : ℕ → Bool)
    → ((b : ℕ) → finished b ≡ true → (f : Flight) × (flight_of s b ≡ Some f))
    → (b : ℕ) → crash s finished b ≡ fold_of s (committed s b) (if finished b then changes_at s place.Flight b else [])

-- from here on no write completes twice
abbrev pub CompletesOnce : State → Type 0
CompletesOnce s = (later : State) (calls : List Call) → Run s calls later → AllPairs (λ t u. t ≢ u) (settled_in calls)

pub record Headline (s : State) : Type 0 where
  pub one_head_each : OneHeadEach s.heads
  pub one_place_each : OnePlaceEach s.heads s.numbers
  pub open_gates_wait : OpenGatesWait s.heads
  pub no_cycle : IsAcyclic (DirectlyOn s.heads)
  pub disk_has_all : DiskHasAll s.heads
  pub writes_stand_alone : WritesStandAlone s.heads
  pub writes_are_free : WritesAreFree s.heads
  pub crash_is_closed : CrashIsClosed s
  pub blocks_hold_base : BlocksHoldBase s
  pub completes_once : CompletesOnce s

-- a lawful state has it
abbrev pub HeadlineHolds : Type 0
HeadlineHolds = (s : State) → IsLawful s → Headline s
