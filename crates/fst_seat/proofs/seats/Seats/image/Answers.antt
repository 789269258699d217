use Rattle.std.proofs.lemmas.Grind.{common_steps}
use Rattle.std.proofs.Common.{◌≡◌, ◌∙◌, ◌<◌, Some, IfSome, length, slice_get, refl, sym, subst, arith}
use Rattle.std.specs.Prelude.{IfOk}
use Rattle.std.proofs.lemmas.Option.{slice_get_read, same_Some}
use Rattle.fst_block.specs.BlockView.{fold_of}
use Rattle.fst_block.specs.Choices.{chosen_of}
use Rattle.fst_seat.specs.Seats.{SeatView}
use Rattle.fst_seat.proofs.seats.Seats.image.Goals.{After-index_mut-seat}
use Rattle.fst_seat.proofs.seats.Seats.image.Goals as goal

-- the block's seat
seated : (g : _) (c : After-index_mut-seat g) → slice_get c.self.inside.seats.items c.args.block.0 ≡ Some c.index_mut-seat.result.now
seated g c =
    let within : c.args.block.0 < length c.self.inside.seats.items = rw (← c.self.view_is) at c.requires.within in
    slice_get_read c.self.inside.seats.items _ _ _ refl within c.index_mut-seat.ensures.value

pub image-requires-clause-loaded : goal.image-requires-clause-loaded
image-requires-clause-loaded g c = c.requires.loaded c.index_mut-seat.result.now (rw (← c.self.view_is) (seated g c))

pub image-requires-clause-choice : goal.image-requires-clause-choice
image-requires-clause-choice g c = c.requires.choice c.index_mut-seat.result.now (rw (← c.self.view_is) (seated g c))

pub returns-clause-image : goal.returns-clause-image
returns-clause-image g c =
    let is = seated g (goal.at.returns-clause-image g c).After-index_mut-seat in
    rw (← c.self.view_is)
    (λ seat there. subst (λ (t : SeatView). IfSome t.loaded (λ l. IfOk c.image.result (λ image. image.items ≡ fold_of l.base (chosen_of c.args.chosen.now l.patches)))) (same_Some _ _ (sym is ∙ there)) c.image.ensures.image)

pub invariant_of-self : goal.invariant_of-self
invariant_of-self g c = grind (arith, common_steps)

pub returns-clause-unchanged : goal.returns-clause-unchanged
returns-clause-unchanged g c = grind (arith, common_steps)
