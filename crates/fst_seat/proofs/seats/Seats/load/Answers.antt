use Rattle.std.proofs.Common.{◌≡◌, ◌<◌, ◌∙◌, Option, Some, true, false, is_some, length, slice_get, refl, sym, ap, inl, inr, arith}
use Rattle.std.proofs.lemmas.Option.{slice_get_read}
use Rattle.std.proofs.lemmas.Result.{on_ok_weaker}
use Rattle.fst_block.specs.BlockView.{BlockView}
use Rattle.fst_seat.specs.Places.{ResidentsView}
use Rattle.fst_seat.specs.Seats.{SeatView}
use Rattle.fst_seat.specs.Residing.{MakesPlace, IsLoadedAt}
use Rattle.fst_seat.proofs.Listing.{listed_at, read_noted}
use Rattle.fst_seat.proofs.Dirty.{read_clean}
use Rattle.fst_seat.proofs.Loading.{none_of, away_placed, length_placed, loads_by, there_by, away_by, rose_by, quiet_by, counted_by}
use Rattle.fst_seat.proofs.InStep.{in_step_moved}
use Rattle.fst_seat.proofs.seats.Seats.load.Goals.{After-index, After-make_place, After-index_mut, After-load-read}
use Rattle.fst_seat.proofs.seats.Seats.load.Goals as goal

-- the block's seat, which is not in memory
was : (g : _) (c : After-index g) → slice_get c.args.self.now.seats c.args.block.0 ≡ Some c.index.result.now
was g c =
    let within : c.args.block.0 < length c.self.inside.seats.items = rw (← c.self.view_is) at c.requires.within in
    rw (← c.self.view_is) (slice_get_read c.self.inside.seats.items _ _ _ refl within c.index.ensures)

away : (g : _) (c : After-make_place g) → is_some c.index.result.now.loaded ≡ false
away g c = sym c.is_loaded.ensures ∙ c.if-is_loaded.false

-- it was in memory
there : (g : _) (c : After-index g) → is_some c.index.result.now.loaded ≡ true → IsLoadedAt c.args.self.now.seats c.args.block.0
there g c loaded = record { seat = c.index.result.now; at = was g c; there = loaded }

pub returns-then-is_loaded-clause-seats : goal.returns-then-is_loaded-clause-seats
returns-then-is_loaded-clause-seats g c = inl (there g (goal.at.returns-then-is_loaded-clause-seats g c).After-index (sym c.is_loaded.ensures ∙ c.if-is_loaded.true), refl)

pub returns-then-is_loaded-clause-there : goal.returns-then-is_loaded-clause-there
returns-then-is_loaded-clause-there g c = there g (goal.at.returns-then-is_loaded-clause-there g c).After-index (sym c.is_loaded.ensures ∙ c.if-is_loaded.true)

pub make_place-requires : goal.make_place-requires
make_place-requires g c = c.requires.room c.index.result.now (was g (goal.at.make_place-requires g c).After-index) (none_of c.index.result.now.loaded (sym c.is_loaded.ensures ∙ c.if-is_loaded.false))

-- a place was made for it, and its seat stands as it did
placed : (g : _) (c : After-index_mut g) → MakesPlace c.args.self.now.most c.args.self.now.seats c.self-2.inside.seats.items
placed g c = rw (← c.self-2.view_is) at c.make_place.ensures.place

within_placed : (g : _) (c : After-index_mut g) → c.args.block.0 < length c.self-2.inside.seats.items
within_placed g c = let long = length_placed _ _ _ (placed g c) in omega (arith, long, c.requires.within)

seated : (g : _) (c : After-index_mut g) → slice_get c.self-2.inside.seats.items c.args.block.0 ≡ Some c.index_mut.result.now
seated g c = slice_get_read c.self-2.inside.seats.items _ _ _ refl (within_placed g c) c.index_mut.ensures.value

pub load-read-requires : goal.load-read-requires
load-read-requires g c = c.self-2.invariant.rest _ _ (seated g (goal.at.load-read-requires g c).After-index_mut)

pub note-requires : goal.note-requires
note-requires g c =
    let all = goal.at.note-requires g c in
    let at = all.After-index_mut in
    let gone = away_placed _ _ _ c.args.block.0 _ (seated g at) (placed g at) _ (was g all.After-index) (away g all.After-make_place) in
    listed_at c.self-2.inside.residents.loaded c.self-2.inside.seats.items c.args.block.0 _ (ap (λ (v : ResidentsView). v.loaded) c.self-2.invariant.listed) (seated g at) ∙ ap (λ (o : Option BlockView). Some (is_some o)) gone

pub invariant_of-self : goal.invariant_of-self
invariant_of-self g c =
    let all = goal.at.invariant_of-self g c in
    let at = all.After-index_mut in
    let gone = away_placed _ _ _ c.args.block.0 _ (seated g at) (placed g at) _ (was g all.After-index) (away g all.After-make_place) in
    let home = c.self-2.invariant.rest _ _ (seated g at) gone in
    let same = c.load-read.ensures.same in
    let there = read_noted c.load-read.result c.load-read.new.self c.load-read.ensures.there c.load-read.ensures.away ∙ sym c.is_ok.ensures.value in
    rw c.note.ensures
    (in_step_moved c.self-2.invariant c.args.block.0 c.load-read.new.self (seated g at) (ap (λ (t : SeatView). t.place) same)
    (λ none. ap (λ (t : SeatView). t.block.flight) same ∙ home) c.is_ok.result there (read_clean c.index_mut.result.now c.load-read.new.self home same c.load-read.ensures.loaded) (ap (λ (t : SeatView). is_some t.block.flight) same))

pub returns-clause-seats : goal.returns-clause-seats
returns-clause-seats g c =
    let all = goal.at.returns-clause-seats g c in
    let at = all.After-index_mut in
    inr (loads_by _ _ _ (placed g at) c.args.block.0 _ (was g all.After-index) (away g all.After-make_place) _ (seated g at) c.load-read.new.self c.load-read.ensures.same c.load-read.ensures.loaded)

pub returns-clause-there : goal.returns-clause-there
returns-clause-there g c =
    let all = goal.at.returns-clause-there g c in
    let at = all.After-index_mut in
    on_ok_weaker c.load-read.result (there_by _ _ _ (placed g at) c.args.block.0 _ (was g all.After-index) (away g all.After-make_place) _ (seated g at) c.load-read.new.self) c.load-read.ensures.there

pub returns-clause-loads : goal.returns-clause-loads
returns-clause-loads g c =
    let all = goal.at.returns-clause-loads g c in
    let at = all.After-index_mut in
    λ err. loads_by _ _ _ (placed g at) c.args.block.0 _ (was g all.After-index) (away g all.After-make_place) _ (seated g at) c.load-read.new.self c.load-read.ensures.same c.load-read.ensures.loaded

pub returns-clause-away : goal.returns-clause-away
returns-clause-away g c =
    let all = goal.at.returns-clause-away g c in
    let at = all.After-index_mut in
    λ err. away_by _ _ _ (placed g at) c.args.block.0 _ (was g all.After-index) (away g all.After-make_place) _ (seated g at) c.load-read.new.self (c.load-read.ensures.away err).1

pub returns-clause-device : goal.returns-clause-device
returns-clause-device g c =
    let all = goal.at.returns-clause-device g c in
    let at = all.After-index_mut in
    λ device. rose_by _ _ _ (placed g at) c.args.block.0 _ (was g all.After-index) (away g all.After-make_place) _ (seated g at) c.load-read.new.self (c.load-read.ensures.device device)

pub returns-clause-one_fault : goal.returns-clause-one_fault
returns-clause-one_fault g c =
    let all = goal.at.returns-clause-one_fault g c in
    let at = all.After-index_mut in
    counted_by _ _ _ (placed g at) c.args.block.0 _ (was g all.After-index) (away g all.After-make_place) _ (seated g at) c.load-read.new.self c.load-read.ensures.one_fault

pub returns-clause-no_fault : goal.returns-clause-no_fault
returns-clause-no_fault g c =
    let all = goal.at.returns-clause-no_fault g c in
    let at = all.After-index_mut in
    λ fine. quiet_by _ _ _ (placed g at) c.args.block.0 _ (was g all.After-index) (away g all.After-make_place) _ (seated g at) c.load-read.new.self (c.load-read.ensures.no_fault fine)

pub index_mut-requires : goal.index_mut-requires
index_mut-requires g c =
    let long = length_placed _ _ _ c.make_place.ensures.place in
    let many : length c.make_place.new.self.seats ≡ length c.self-2.inside.seats.items = rw (← c.self-2.view_is) refl in
    omega (arith, long, many, c.requires.within, c.self-2.inside.seats.ok.0)
