-- What has still to reach the disk of a patch and of all that it depends on.
use Rattle.std.specs.Prelude.{◌≡◌, ◌≤◌, ◌⊎◌, ◌==◌, ◌&&◌, ◌+◌, ◌-◌, ◌*◌, ◌/◌, ℕ, Bool, true, false, List, [], ◌∷◌, if◌then◌else◌}
use Rattle.fst_types.specs.declared.place.Place.{Place}
use Rattle.fst_types.specs.declared.place.Place.TheVariants as place
use Rattle.fst_types.specs.Patches.{Kind, Change, Empty, OpenGate, SealedGate}
use Rattle.fst_heads.specs.declared.pending.Pending.{Pending}
use Rattle.fst_heads.specs.declared.pending.Pending.TheVariants as pending
use Rattle.fst_heads.specs.declared.pending.Sums.{Sums}

-- of changes of b and of changes of c together: the given where the two are one block, and else more than one block
abbrev pub meet : ℕ → ℕ → Pending → Pending
meet b c same = if c == b then same else pending.Apart

-- what is pending of two patches together
abbrev pub join : Pending → Pending → Pending
join pending.Nothing q = q
join pending.Held q = pending.Held
join p pending.Nothing = p
join p pending.Held = pending.Held
join (pending.Block b) (pending.Block c) = meet b c (pending.Block b)
join (pending.Block b) (pending.Behind c) = meet b c (pending.Behind b)
join (pending.Behind b) (pending.Block c) = meet b c (pending.Behind b)
join (pending.Behind b) (pending.Behind c) = meet b c (pending.Behind b)
join p q = pending.Apart

-- what is pending of a row, of each patch of which it is told
abbrev pub joined : (ℕ → Pending) → List ℕ → Pending
joined told [] = pending.Nothing
joined told (n ∷ ns) = join (told n) (joined told ns)

-- of a change of the block with that pending below it
abbrev pub of_change : ℕ → Place → Pending → Pending
of_change b place.Memory below = join (pending.Block b) below
of_change b place.Flight below = join (pending.Behind b) below
of_change b place.Disk below = pending.Nothing

-- of a patch of that kind at that place, with that pending of its direct dependencies
abbrev pub of_kind : Kind → Place → Pending → Pending
of_kind (Change block at len grade) p below = of_change block p below
of_kind Empty p below = below
of_kind OpenGate p below = pending.Held
of_kind SealedGate p below = below

-- the two are the same
abbrev pub is_pending : Pending → Pending → Bool
is_pending pending.Nothing pending.Nothing = true
is_pending (pending.Block b) (pending.Block c) = b == c
is_pending (pending.Behind b) (pending.Behind c) = b == c
is_pending pending.Apart pending.Apart = true
is_pending pending.Held pending.Held = true
is_pending p q = false

-- changes of b alone are pending, whether some are in flight or not
abbrev pub IsOf : ℕ → Pending → Type 0
IsOf b p = (p ≡ pending.Block b) ⊎ (p ≡ pending.Behind b)

-- how far it has to sink: from an open gate to several blocks, to one of which some is in flight, to one, and to nothing
abbrev pub height : Pending → ℕ
height pending.Nothing = 0
height (pending.Block b) = 1
height (pending.Behind b) = 2
height pending.Apart = 3
height pending.Held = 4

-- by a seal or a landing what is pending only sinks: nothing is pending then that was not before
abbrev pub Sinks : Pending → Pending → Type 0
Sinks old new = join old new ≡ old

-- by a launch of b it only rises: where changes of b in memory are pending, one of them is in flight now
abbrev pub Rises : ℕ → Pending → Pending → Type 0
Rises b old new = (new ≡ old) ⊎ ((old ≡ pending.Block b) × (new ≡ pending.Behind b))

-- the sums of no patch
abbrev pub nothing : Sums
nothing = record { count = 0; held = 0; apart = 0; behind = 0; total = 0; squares = 0 }

-- with one patch more
abbrev pub plus : Pending → Sums → Sums
plus pending.Nothing s = s
plus (pending.Block b) s = record s { count = s.count + 1; total = s.total + b; squares = s.squares + b * b }
plus (pending.Behind b) s = record s { count = s.count + 1; behind = s.behind + 1; total = s.total + b; squares = s.squares + b * b }
plus pending.Apart s = record s { count = s.count + 1; apart = s.apart + 1 }
plus pending.Held s = record s { count = s.count + 1; held = s.held + 1 }

-- with one patch less
abbrev pub minus : Pending → Sums → Sums
minus pending.Nothing s = s
minus (pending.Block b) s = record s { count = s.count - 1; total = s.total - b; squares = s.squares - b * b }
minus (pending.Behind b) s = record s { count = s.count - 1; behind = s.behind - 1; total = s.total - b; squares = s.squares - b * b }
minus pending.Apart s = record s { count = s.count - 1; apart = s.apart - 1 }
minus pending.Held s = record s { count = s.count - 1; held = s.held - 1 }

-- the sums of a row
abbrev pub sums_of : (ℕ → Pending) → List ℕ → Sums
sums_of told [] = nothing
sums_of told (n ∷ ns) = plus (told n) (sums_of told ns)

-- of two rows together
abbrev pub together : Sums → Sums → Sums
together s t = record { count = s.count + t.count; held = s.held + t.held; apart = s.apart + t.apart; behind = s.behind + t.behind; total = s.total + t.total; squares = s.squares + t.squares }

-- the blocks add up as if all were the mean block
abbrev pub is_even : Sums → Bool
is_even s = (s.apart == 0) && (((s.total / s.count) * s.count == s.total) && ((s.total / s.count) * s.total == s.squares))

-- then that block is pending, and some of it is in flight where that is so of some
abbrev pub of_mean : Sums → Pending
of_mean s = if s.behind == 0 then pending.Block (s.total / s.count) else pending.Behind (s.total / s.count)

-- what is pending of a row with these sums: of one block exactly if all are of the mean block
abbrev pub joined_sums : Sums → Pending
joined_sums s =
    if s.count == 0 then pending.Nothing
    else (if s.held == 0 then (if is_even s then of_mean s else pending.Apart) else pending.Held)

-- blocks are numbers of 16 bits
abbrev pub max_block : ℕ
max_block = 65535

pub record Fits (s : Sums) : Type 0 where
  pub held : s.held ≤ s.count
  pub apart : s.apart ≤ s.count
  pub behind : s.behind ≤ s.count
  pub total : s.total ≤ s.count * max_block
  pub squares : s.squares ≤ s.count * (max_block * max_block)

-- one of the row has that pending, and the others fit
abbrev pub HasIn : Pending → Sums → Type 0
HasIn p s = (rest : Sums) × Fits rest × (s ≡ plus p rest)
