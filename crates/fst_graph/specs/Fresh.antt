-- Room for new heads, and what a new head makes of the others and of what has a place for each head.
use Rattle.std.specs.Prelude.{◌≡◌, ◌≤◌, ◌<◌, ◌+◌, ◌++◌, ◌∷◌, [], ℕ, false, List, length, count_by, map, All, vec_len, vec_capacity, Contains}
use Rattle.std.specs.List.Sorted.{IsStrictlyIncreasing}
use Rattle.fst_types.specs.{Dependencies.IsLiveNumber, Facts.SparseAreLawful, Limits.max_heads, Making.fresh, Patches.{Patch, IsOn, IsOpenGate, OpenGate}, Tests.{is_live, is_on}}
use Rattle.fst_heads.specs.{Heads.{kind_of, patches_of}, Nodes.{Node, nodes_of, linked_to, pending_in}, Pendings.{joined, of_kind, sums_of}}
use Rattle.fst_levels.specs.{Ancestors.GoesUnder, Leveling.{level_of, top_level}, declared.levels.{Ancestry.Ancestry}}
use Rattle.fst_graph.specs.declared.columns.Columns.{Columns}
use Rattle.fst_graph.specs.declared.fresh.Fresh.{Fresh}

-- the patch that it becomes
abbrev pub patch_from : Fresh → Patch
patch_from f = record { number = f.number; kind = kind_of f.kind; place = f.place; dependencies = f.dependencies.items }

-- each head and each rank has a lower number
pub record IsNewest (number : ℕ) (c : Columns) : Type 0 where
  pub heads : (p : Patch) → Contains (patches_of c.heads.list.items) p → p.number < number
  pub ranks : All (λ r. r.number < number) c.levels.ranks

-- the nodes with a new patch, which is a dependant of those that it depends on
abbrev pub nodes_with : List Node → Patch → List Node
nodes_with nodes p =
    map (linked_to p.dependencies p.number) nodes
    ++ record { patch = p; sums = sums_of (pending_in nodes) p.dependencies; pending = of_kind p.kind p.place (joined (pending_in nodes) p.dependencies); dependants = []; forgotten = false } ∷ []

-- patch p, which is no change, may be the next
pub record MayAdd (heads : List Patch) (numbers : ℕ) (p : Patch) : Type 0 where
  pub next : p.number ≡ numbers + 1
  pub plain : (b : ℕ) → is_on b p.kind ≡ false
  pub off : (b : ℕ) → IsOn p b → ⊥
  pub few : count_by is_live heads < max_heads
  pub rising : IsStrictlyIncreasing p.dependencies
  pub live : (m : ℕ) → Contains p.dependencies m → IsLiveNumber heads m
  pub lawful : SparseAreLawful (heads ++ p ∷ []) (numbers + 1)

-- so many more heads have a place, but in the queue
pub record HasPlaces (more : ℕ) (c : Columns) : Type 0 where
  pub heads_free : vec_len c.heads.list + more ≤ vec_capacity c.heads.list
  pub marks_free : length c.ends.up.walk.marks + more ≤ c.ends.up.walk.room
  pub below_free : length c.ends.down.walk.marks + more ≤ c.ends.down.walk.room
  pub ranks_free : length c.levels.ranks + more ≤ c.levels.room

-- nothing but room changes, and the queue gets no less
pub record IsRoomier (old new : Columns) : Type 0 where
  pub nodes : nodes_of new.heads.list.items ≡ nodes_of old.heads.list.items
  pub marks : (new.ends.up.walk.marks ≡ old.ends.up.walk.marks) × (new.ends.down.walk.marks ≡ old.ends.down.walk.marks)
  pub crossed : (new.ends.up.crossed ≡ old.ends.up.crossed) × (new.ends.down.crossed ≡ old.ends.down.crossed)
  pub ranks : new.levels.ranks ≡ old.levels.ranks
  pub floors : new.levels.floors ≡ old.levels.floors
  pub waiting : new.queue.items ≡ old.queue.items
  pub wide : vec_capacity old.queue ≤ vec_capacity new.queue

-- patch p comes last, at that level and with that ancestry
pub record HasOneMore (p : Patch) (level : ℕ) (ancestry : Ancestry) (old new : Columns) : Type 0 where
  pub nodes : nodes_of new.heads.list.items ≡ nodes_with (nodes_of old.heads.list.items) p
  pub marks : (new.ends.up.walk.marks ≡ old.ends.up.walk.marks ++ false ∷ []) × (new.ends.down.walk.marks ≡ old.ends.down.walk.marks ++ false ∷ [])
  pub crossed : (new.ends.up.crossed ≡ old.ends.up.crossed) × (new.ends.down.crossed ≡ old.ends.down.crossed)
  pub ranks : new.levels.ranks ≡ old.levels.ranks ++ record { number = p.number; level = level; ancestry = ancestry; hard_over = 0 } ∷ []
  pub floors : new.levels.floors ≡ old.levels.floors
  pub waiting : new.queue.items ≡ old.queue.items
  pub wide : vec_capacity old.queue ≤ vec_capacity new.queue

-- patch p, which is no change, is put down: an open gate at the top, and another no lower than what it depends on. Its ancestors are among that or below. The queue has a place for it
pub record IsAdded (p : Patch) (old new : Columns) : Type 0 where
  pub level : ℕ
  pub ancestry : Ancestry
  pub under : GoesUnder (patches_of old.heads.list.items) p.number p.dependencies ancestry
  pub head : HasOneMore p level ancestry old new
  pub over : (q : ℕ) → Contains p.dependencies q → level_of old.levels.ranks q ≤ top_level → level_of old.levels.ranks q ≤ level
  pub most : level ≤ top_level
  pub top : IsOpenGate p → level ≡ top_level
  pub free : vec_len old.heads.list < vec_capacity new.queue

-- two gates are added, the second of which depends on the first
pub record AddsTwo (numbers : ℕ) (old new : Columns) : Type 0 where
  pub between : Columns
  pub head : IsAdded (fresh (numbers + 1) OpenGate []) old between
  pub tail : IsAdded (fresh (numbers + 1 + 1) OpenGate ((numbers + 1) ∷ [])) between new
