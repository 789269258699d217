-- A change that was put into its block: the cache with the block in memory, and with the change.
use Rattle.std.proofs.Common.{◌≡◌, ◌≢◌, ◌+◌, ℕ, List, [], ◌∷◌, ◌++◌, Option, Some, is_some, refl, sym, ap, ◌∙◌, length, arith, sum_by}
use Rattle.fst_types.specs.declared.grade.Grade.{Grade}
use Rattle.fst_types.specs.Facts.{IsLawful}
use Rattle.fst_block.specs.BlockView.{len_if_soft}
use Rattle.fst_graph.specs.Known.{Known, Prepared}
use Rattle.fst_seat.specs.Seats.{SeatView, SeatsView, blocks, undo_of}
use Rattle.fst_seat.specs.Residing.{Puts}
use Rattle.fst_seat.proofs.Seated.{same_listed}
use Rattle.fst_seat.proofs.Undo.{undo_puts}
use Rattle.fst_cache.specs.declared.cache.Cache.TheInside.{Inside}
use Rattle.fst_cache.specs.declared.contents.Contents.{Contents}
use Rattle.fst_cache.specs.Kept.{IsKept, IsKeptSeat, IsSameAt, state_of, span_of}
use Rattle.fst_cache.proofs.Kept.{one_moved}
use Rattle.fst_cache.proofs.MakeReady.{ready, same_state, kept_ready}

-- what is kept of the change beside the graph: its undo bytes are counted, its bytes stand under its number, and its block has it
pub record IsPut {Slot : Type 0} (i : Inside Slot) (b at number : ℕ) (bytes : List ℕ) (grade : Grade) (undo : ℕ) (contents : Contents) (seats : SeatsView) : Type 0 where
  pub undone : undo ≡ i.undo + len_if_soft grade (length bytes)
  pub added : contents.items ≡ i.contents.items ++ (number, bytes) ∷ []
  pub most : seats.most ≡ i.seats.most
  pub puts : Puts i.seats.most i.seats.seats b (record { number = number; span = span_of at (length bytes); grade = grade; bytes = bytes }) seats.seats

module _ {Slot : Type 0} (i : Inside Slot) (K : IsKept i) {graph : Known} {prepared : Option Prepared} (same : graph ≡ record i.graph { prepared = prepared })
    {b at number : ℕ} {bytes : List ℕ} {grade : Grade} {undo : ℕ} {contents : Contents} {seats : SeatsView} (P : IsPut i b at number bytes grade undo contents seats) where
  -- the cache with room in the graph, and the block in memory
  abbrev pub read : Inside Slot
  read = ready i K same (record i.seats { seats = P.puts.read }) refl P.puts.load

  pub same_read : state_of read ≡ state_of i
  same_read = same_state i K same (record i.seats { seats = P.puts.read }) refl P.puts.load

  pub kept_read : IsKept read
  kept_read = kept_ready i K same (record i.seats { seats = P.puts.read }) refl P.puts.load

  -- the block's seat with the change
  abbrev pub with_change : SeatView
  with_change = record P.puts.seat { loaded = Some (record P.puts.view { patches = P.puts.view.patches ++ record { number = number; span = span_of at (length bytes); grade = grade; bytes = bytes } ∷ [] }) }

  pub same_blocks : blocks seats.seats ≡ blocks P.puts.read
  same_blocks = ap blocks P.puts.seats ∙ same_listed P.puts.read b P.puts.seat P.puts.at (λ (t : SeatView). t.block) with_change refl

  -- and the cache with it
  module _ (new : Known) where
    abbrev pub made : Inside Slot
    made = record i { made = i.made + 1; undo = undo; graph = new; contents = contents; seats = seats }

    pub kept_put : new.blocks ≡ graph.blocks → IsLawful (state_of made) → ((k : ℕ) → k ≢ b → IsSameAt (state_of read) (state_of made) k) → IsKeptSeat (state_of made) b with_change → IsKept made
    kept_put many lawful others here =
        one_moved read made kept_read b P.puts.seat P.puts.at with_change P.puts.seats P.most refl many lawful undoing (sym (ap (λ o. is_some o) P.puts.there)) others here
      where
        undoing : undo ≡ sum_by undo_of seats.seats
        undoing =
            let more = undo_puts i.seats.most i.seats.seats b _ seats.seats P.puts in
            let known = K.undoing in
            let undone = P.undone in
            omega (arith, more, known, undone)
