-- Patches with what is kept beside them: how their direct dependencies add up, what is pending of them, which patches directly depend on them, and whether they are forgotten.
use Rattle.std.specs.Prelude.{◌≡◌, ◌≢◌, ◌≤◌, ◌<◌, ◌==◌, ◌&&◌, ◌++◌, ◌∷◌, [], ◌↔◌, ℕ, Bool, List, map, count_by, Contains, AllPairs, if◌then◌else◌}
use Rattle.std.specs.List.{list_any}
use Rattle.smallvec.specs.SmallVec.{HasRoomFor}
use Rattle.fst_types.specs.declared.place.Place.TheVariants as place
use Rattle.fst_types.specs.{Patches.Patch, Tests.{is_among, is_live}}
use Rattle.fst_heads.specs.declared.head.Head.{Head}
use Rattle.fst_heads.specs.declared.pending.Pending.{Pending}
use Rattle.fst_heads.specs.declared.pending.Pending.TheVariants as pending
use Rattle.fst_heads.specs.declared.pending.Sums.{Sums}
use Rattle.fst_heads.specs.{Heads.patch_of, Pendings.{IsOf, joined, of_kind, sums_of, together}}

pub record Node : Type 0 where
  pub patch : Patch
  pub sums : Sums
  pub pending : Pending
  pub dependants : List ℕ
  pub forgotten : Bool

abbrev pub node_of : Head → Node
node_of h = record { patch = patch_of h; sums = h.sums; pending = h.pending; dependants = h.dependants.items; forgotten = h.forgotten }

abbrev pub nodes_of : List Head → List Node
nodes_of heads = map node_of heads

abbrev pub patches_in : List Node → List Patch
patches_in nodes = map (λ x. x.patch) nodes

-- how often n stands in the row
abbrev pub times : List ℕ → ℕ → ℕ
times row n = count_by (λ m. m == n) row

-- p stands among the dependants of q as often as q among the direct dependencies of p
abbrev pub AreLinked : List Node → Type 0
AreLinked nodes =
    (p q : Node) → Contains nodes p → Contains nodes q → times q.dependants p.patch.number ≡ times p.patch.dependencies q.patch.number

-- dependants have numbers that were given
abbrev pub AreGiven : List Node → ℕ → Type 0
AreGiven nodes numbers = (x : Node) (n : ℕ) → Contains nodes x → Contains x.dependants n → n ≤ numbers

-- no number stands twice among the direct dependencies or the dependants of a patch
abbrev pub AreDistinct : List Node → Type 0
AreDistinct nodes = (x : Node) → Contains nodes x → AllPairs (λ m n. m ≢ n) x.patch.dependencies × AllPairs (λ m n. m ≢ n) x.dependants

-- n is the number of a live patch, as a test
abbrev pub is_live_in : List Patch → ℕ → Bool
is_live_in patches n = list_any (λ p. is_live p && (p.number == n)) patches

-- the patch with number n is forgotten, but its head still kept, as a test
abbrev pub is_forgotten_in : List Node → ℕ → Bool
is_forgotten_in nodes n = list_any (λ x. x.forgotten && (x.patch.number == n)) nodes

-- each count is that of the direct dependencies that are not on disk
abbrev pub AreCounted : List Node → Type 0
AreCounted nodes = (x : Node) → Contains nodes x → x.sums.count ≡ count_by (is_live_in (patches_in nodes)) x.patch.dependencies

-- what is pending of the patch with number n, which is nothing where it is forgotten
abbrev pub pending_in : List Node → ℕ → Pending
pending_in [] n = pending.Nothing
pending_in (x ∷ xs) n = if x.patch.number == n then x.pending else pending_in xs n

-- what is pending of each patch is what its kind, its place and its direct dependencies make it
pub record AreSettled (nodes : List Node) (blocks : ℕ) : Type 0 where
  pub summed : (x : Node) → Contains nodes x → x.sums ≡ sums_of (pending_in nodes) x.patch.dependencies
  pub settled : (x : Node) → Contains nodes x → x.pending ≡ of_kind x.patch.kind x.patch.place (joined (pending_in nodes) x.patch.dependencies)
  pub placed : (x : Node) → Contains nodes x → (x.pending ≡ pending.Nothing) ↔ (x.patch.place ≡ place.Disk)
  pub inside : (x : Node) (b : ℕ) → Contains nodes x → IsOf b x.pending → b < blocks

-- what f makes of the node with number n, and the others as they are
abbrev pub at_number : ℕ → (Node → Node) → Node → Node
at_number n f x = if x.patch.number == n then f x else x

-- n is among the dependants of each patch of the row besides
abbrev pub linked_to : List ℕ → ℕ → Node → Node
linked_to row n x = if is_among row x.patch.number then record x { dependants = x.dependants ++ n ∷ [] } else x

-- the names are among the direct dependencies besides, with their sums
abbrev pub gains_names : List ℕ → Sums → Node → Node
gains_names names sums x =
    record x { patch = record x.patch { dependencies = x.patch.dependencies ++ names }; sums = together x.sums sums }

-- each patch of the row has room for one more dependant
abbrev pub HasRoomAbove : List Head → List ℕ → Type 0
HasRoomAbove heads row = (h : Head) → Contains heads h → Contains row h.number → HasRoomFor h.dependants 1
