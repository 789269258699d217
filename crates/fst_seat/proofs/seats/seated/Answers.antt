use Rattle.std.proofs.lemmas.Grind.{common_steps}
use Rattle.std.proofs.Common.{◌≡◌, List, [], ◌∷◌, ◌++◌, length, sym, ap, ◌∙◌, append-nil, arith}
use Rattle.fst_seat.specs.Seats.{seats_of}
use Rattle.fst_seat.proofs.seats.seated.Goals as goal

-- nothing is left
all_yielded : {X : Type 0} (yielded rest slots : List X) → yielded ++ rest ≡ slots → length rest ≡ 0 → yielded ≡ slots
all_yielded yielded [] slots e none = sym (append-nil yielded) ∙ e
all_yielded yielded (x ∷ rest) slots e none = absurd (omega (arith, none))

pub returns : goal.returns
returns g c =
    let left = c.loop-slot.slot-iterator.rest in
    c.loop-slot.invariant.seats
    ∙ ap (seats_of g.S.BlockSlot.held g.S.BlockSlot.index g.S.BlockSlot.faults)
    (all_yielded c.loop-slot.yielded left.items c.args.slots.items c.loop-slot.invariant.all (sym left.ok.0 ∙ c.in-None.ensures.steps.0))

pub loop-slot-preserved : goal.loop-slot-preserved
loop-slot-preserved g c = grind (arith, common_steps)
