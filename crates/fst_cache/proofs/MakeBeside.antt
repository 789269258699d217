-- What a patch that was put leaves beside the state: what the slots hold, and what came back.
use Rattle.std.proofs.Common.{◌≡◌, ℕ, List, map, refl, ap, ◌∙◌}
use Rattle.fst_block.specs.BlockView.{BlockPatch}
use Rattle.fst_seat.specs.Seats.{SeatView}
use Rattle.fst_seat.specs.Residing.{Puts}
use Rattle.fst_seat.proofs.Seated.{same_listed}
use Rattle.fst_cache.specs.declared.cache.Cache.TheInside.{Inside}
use Rattle.fst_cache.specs.Kept.{IsKept}
use Rattle.fst_cache.proofs.ResideLoading.{Loaded, load_keeps}

module _ {Slot : Type 0} (i : Inside Slot) (K : IsKept i) {b : ℕ} {patch : BlockPatch} {new : List SeatView} (puts : Puts i.seats.most i.seats.seats b patch new) where
  load : Loaded i b puts.read
  load = load_keeps i K b puts.read puts.load

  -- the patch is put into the bytes in memory alone
  put_listed : {Y : Type 0} (f : SeatView → Y) → ((t : SeatView) (o : _) → f (record t { loaded = o }) ≡ f t) → map f new ≡ map f puts.read
  put_listed f each = ap (map f) puts.seats ∙ same_listed puts.read b puts.seat puts.at f _ (each puts.seat _)

  pub homes_made : map (λ (t : SeatView). t.home) new ≡ map (λ (t : SeatView). t.home) i.seats.seats
  homes_made = put_listed (λ (t : SeatView). t.home) (λ t o. refl) ∙ load.homes

  pub back_made : map (λ (t : SeatView). t.back) new ≡ map (λ (t : SeatView). t.back) i.seats.seats
  back_made = put_listed (λ (t : SeatView). t.back) (λ t o. refl) ∙ load.back
