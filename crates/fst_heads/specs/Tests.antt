-- What a walk looks for.
use Rattle.std.specs.Prelude.{◌==◌, ◌&&◌, ℕ, Bool, true, false, not}
use Rattle.fst_heads.specs.declared.test.Test.{Test}
use Rattle.fst_heads.specs.declared.test.Test.TheVariants as test
use Rattle.fst_types.specs.declared.place.Place.{Place}
use Rattle.fst_types.specs.declared.place.Place.TheVariants as place
use Rattle.fst_types.specs.declared.grade.Grade.TheVariants as grade
use Rattle.fst_types.specs.Patches.{Kind, Change, Empty, OpenGate, SealedGate, Patch}

abbrev pub is_live_place : Place → Bool
is_live_place place.Memory = true
is_live_place place.Flight = true
is_live_place place.Disk = false

-- a change of the one block at that place is not on disk, and not in memory on the other
abbrev pub is_away : ℕ → ℕ → Place → Bool
is_away block on place.Memory = not (block == on)
is_away block on place.Flight = true
is_away block on place.Disk = false

abbrev pub change_passes : Test → ℕ → ℕ → Place → Bool
change_passes (test.Numbered number) n block at = n == number
change_passes test.Open n block at = false
change_passes (test.Obstacle on) n block at = is_away block on at
change_passes (test.LiveOn on) n block at = is_live_place at && (block == on)
change_passes (test.LiveOff on) n block at = is_live_place at && not (block == on)

abbrev pub gate_passes : Test → ℕ → Bool
gate_passes (test.Numbered number) n = n == number
gate_passes test.Open n = true
gate_passes (test.Obstacle on) n = true
gate_passes (test.LiveOn on) n = false
gate_passes (test.LiveOff on) n = false

abbrev pub follower_passes : Test → ℕ → Bool
follower_passes (test.Numbered number) n = n == number
follower_passes _ n = false

abbrev pub kind_passes : Test → ℕ → Kind → Place → Bool
kind_passes t n (Change block at len grade) p = change_passes t n block p
kind_passes t n Empty p = follower_passes t n
kind_passes t n OpenGate p = gate_passes t n
kind_passes t n SealedGate p = follower_passes t n

-- the patch passes
abbrev pub passes : Test → Patch → Bool
passes t p = kind_passes t p.number p.kind p.place

abbrev pub is_hard_kind : Kind → Bool
is_hard_kind (Change block at len grade.Hard) = true
is_hard_kind (Change block at len grade.Soft) = false
is_hard_kind Empty = false
is_hard_kind OpenGate = false
is_hard_kind SealedGate = false
