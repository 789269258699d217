use Rattle.std.proofs.Common.{ℕ, ◌≡◌, ◌<◌, Some, true, false, slice_get}
use Rattle.std.specs.Option.{option_map_or}
use Rattle.fst_seat.specs.Seats.{SeatView}
use Rattle.fst_cache.proofs.cache.Cache.stalled.Given as goal

abbrev pub invariant-loop-at : goal.invariant-loop-at
invariant-loop-at g l = (k : ℕ) (t : SeatView) → k < l.at → slice_get l.seat-items k ≡ Some t → option_map_or (λ f. f.stalled) t.block.flight false ≡ true → ⊥
