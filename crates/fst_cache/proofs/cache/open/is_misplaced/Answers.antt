use Rattle.std.proofs.Common.{◌≡◌, ◌∙◌, arith, inl, inr, length, map}
use Rattle.std.proofs.lemmas.Bool.{false≢true}
use Rattle.std.proofs.lemmas.List.{length-map}
use Rattle.fst_cache.proofs.OpenPlaced.{not_misplaced}
use Rattle.fst_cache.proofs.cache.open.is_misplaced.Goals as goal

pub returns : goal.returns
returns g c =
    let same : length (map g.S.BlockSlot.index c.args.slots.now) ≡ length c.args.slots.now = length-map c.args.slots.now g.S.BlockSlot.index in (
      (λ t. absurd (false≢true t)),
      (λ h. elim h [
        | inl other ↦ absurd (other (same ∙ c.if-slots-blocks.false))
        | inr m ↦ absurd (not_misplaced g.S.BlockSlot.index c.args.slots.now (λ k d lt. c.loop-at.invariant k d (omega arith)) m)
      ]),
    )
