-- Faults have numbers of their own.
use Rattle.std.proofs.Common.{◌≡◌, List, [], ◌∷◌, get_or, refl, sym, ap, ◌∙◌}
use Rattle.fst_types.specs.declared.fault.What.TheVariants as what
use Rattle.fst_types.specs.declared.fault.Fault.{Fault}
use Rattle.fst_types.specs.declared.fault.Fault.TheVariants as fault
use Rattle.fst_types.specs.FaultNumbers.{number_of, bare, NumbersTell}

-- the bare faults by their numbers; no fault has the number 0
abbrev by_number : List Fault
by_number =
    fault.BadLine
    ∷ fault.BadLine
    ∷ fault.BadField
    ∷ fault.NoBlock
    ∷ fault.BadSpan
    ∷ fault.NoPatch
    ∷ fault.NotGate
    ∷ fault.Sealed
    ∷ fault.Cycle
    ∷ fault.Busy
    ∷ fault.NothingReady
    ∷ bare (fault.HardHeld (record { 0 = 0 }))
    ∷ fault.Dirty ∷ fault.NotStalled ∷ fault.Stranger ∷ fault.Device ∷ bare (fault.Full what.Heads) ∷ fault.Memory ∷ fault.GroupBegun ∷ fault.Lost ∷ []

told : (f : Fault) → get_or by_number (number_of f) fault.BadLine ≡ bare f
told fault.BadLine = refl
told fault.BadField = refl
told fault.NoBlock = refl
told fault.BadSpan = refl
told fault.NoPatch = refl
told fault.NotGate = refl
told fault.Sealed = refl
told fault.Cycle = refl
told fault.Busy = refl
told fault.NothingReady = refl
told (fault.HardHeld p) = refl
told fault.Dirty = refl
told fault.NotStalled = refl
told fault.Stranger = refl
told fault.Device = refl
told (fault.Full full) = refl
told fault.Memory = refl
told fault.GroupBegun = refl
told fault.Lost = refl

pub numbers_tell : NumbersTell
numbers_tell f g e = sym (told f) ∙ (ap (λ n. get_or by_number n fault.BadLine) e ∙ told g)
