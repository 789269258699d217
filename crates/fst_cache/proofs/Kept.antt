-- What the cache's type keeps, as calls change one seat or the state under all of them.
use Rattle.std.proofs.Common.{◌≡◌, ◌≢◌, ℕ, List, Option, Some, is_some, sym, ap, subst, ◌∙◌, inl, inr, slice_get, slice_set, length-set, sum_by}
use Rattle.fst_types.specs.State.{State, BlockState, committed, flight_of}
use Rattle.fst_types.specs.Bytes.{base_under}
use Rattle.fst_types.specs.Facts.{IsLawful}
use Rattle.fst_block.specs.BlockView.{BlockPatch}
use Rattle.fst_graph.specs.Known.{Known, Prepared}
use Rattle.fst_seat.specs.Seats.{SeatView, SeatsView, undo_of}
use Rattle.fst_seat.proofs.Seated.{get-set, count_set}
use Rattle.fst_cache.specs.declared.cache.Cache.TheInside.{Inside}
use Rattle.fst_cache.specs.declared.contents.Contents.{Contents}
use Rattle.fst_cache.specs.Kept.{IsKeptSeat, IsKept, IsSameAt, state_of, block_view, block_patches}

-- the cache with another graph
abbrev pub with_graph : {Slot : Type 0} → Inside Slot → Known → Inside Slot
with_graph i graph = record i { graph = graph }

-- a seat agrees with another state in which its block is the same
pub moved : (s t : State) (j : ℕ) (seat : SeatView) → IsSameAt s t j → IsKeptSeat s j seat → IsKeptSeat t j seat
moved s t j seat same k = record {
  loaded = λ l e. k.loaded l e ∙ sym (view_same s t j same);
  dirty = λ d. k.dirty (same.dirty d);
  home = k.home;
  patches = λ f e. k.patches f e ∙ sym same.flying;
}
  where
    view_same : (s t : State) (j : ℕ) → IsSameAt s t j → block_view t j ≡ block_view s j
    view_same s t j same =
        ap (λ (ps : List BlockPatch). record { base = base_under (committed t j) (flight_of t j); patches = ps }) same.patches
        ∙ ap (λ (v : BlockState). record { base = base_under v.committed v.flight; patches = block_patches s j }) same.block

-- where each block is the same, the seats stay
pub all_moved : {Slot : Type 0} (i : Inside Slot) (made : ℕ) (graph : Known) (contents : Contents) → IsKept i
    → IsLawful (state_of (record i { made = made; graph = graph; contents = contents })) → graph.blocks ≡ i.graph.blocks
    → ((b : ℕ) → IsSameAt (state_of i) (state_of (record i { made = made; graph = graph; contents = contents })) b)
    → IsKept (record i { made = made; graph = graph; contents = contents })
all_moved i made graph contents K lawful many same = record {
  lawful = lawful;
  few = K.few;
  small = K.small;
  graph_blocks = many ∙ K.graph_blocks;
  loaded = K.loaded;
  seat = λ b seat e. moved (state_of i) (state_of (record i { made = made; graph = graph; contents = contents })) b seat (same b) (K.seat b seat e);
  undoing = K.undoing;
}

-- a seat is put in the place of this one: the others agree with the new state where their blocks are the same
pub one_moved : {Slot : Type 0} (i j : Inside Slot) → IsKept i → (b : ℕ) (seat : SeatView) → slice_get i.seats.seats b ≡ Some seat → (new : SeatView)
    → j.seats.seats ≡ slice_set i.seats.seats b new → j.seats.most ≡ i.seats.most → j.size ≡ i.size → j.graph.blocks ≡ i.graph.blocks
    → IsLawful (state_of j) → j.undo ≡ sum_by undo_of j.seats.seats → is_some new.loaded ≡ is_some seat.loaded
    → ((k : ℕ) → k ≢ b → IsSameAt (state_of i) (state_of j) k) → IsKeptSeat (state_of j) b new → IsKept j
one_moved i j K b seat at_b new seats most size many lawful undoing there same here = record {
  lawful = lawful;
  few = rw (seats, length-set) K.few;
  small = rw size K.small;
  graph_blocks = rw (seats, length-set) (many ∙ K.graph_blocks);
  loaded = rw (seats, most, count_set (λ (s : SeatView). is_some s.loaded) i.seats.seats b seat new at_b there) K.loaded;
  seat = λ k other e.
      elim (get-set i.seats.seats b k new other (rw seats at e)) [
        | inl h ↦ subst (λ (n : ℕ). IsKeptSeat (state_of j) n other) (sym h.0) (subst (λ (u : SeatView). IsKeptSeat (state_of j) b u) h.1 here)
        | inr h ↦ moved (state_of i) (state_of j) k other (same k h.0) (K.seat k other h.1)
      ];
  undoing = undoing;
}

-- what the graph has prepared is no part of the state
pub kept_prepared : {Slot : Type 0} (i : Inside Slot) → IsKept i → (graph : Known) (prepared : Option Prepared) → graph ≡ record i.graph { prepared = prepared } → IsKept (with_graph i graph)
kept_prepared i K graph prepared same = subst (λ (k : Known). IsKept (with_graph i k)) (sym same) (record { lawful = K.lawful; few = K.few; small = K.small; graph_blocks = K.graph_blocks; loaded = K.loaded; seat = K.seat; undoing = K.undoing })

-- other seats, of which as many may be in memory
pub kept_seats : {Slot : Type 0} (i : Inside Slot) (seats : SeatsView) → seats.most ≡ i.seats.most → IsKept (record i { seats = record i.seats { seats = seats.seats } }) → IsKept (record i { seats = seats })
kept_seats i seats most = subst (λ (n : ℕ). IsKept (record i { seats = record seats { most = n } })) (sym most)
