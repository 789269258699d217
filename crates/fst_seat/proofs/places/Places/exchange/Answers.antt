use Rattle.std.proofs.Common.{◌≡◌, ◌<◌, Some, slice_get, length, arith}
use Rattle.std.proofs.lemmas.Option.{slice_get_read, slice_get_within}
use Rattle.fst_seat.proofs.Exchanging.{exchange_is, exchange_keeps}
use Rattle.fst_seat.proofs.places.Places.exchange.Goals as goal

pub index_mut-requires-3 : goal.index_mut-requires-3
index_mut-requires-3 c =
    let order = c.self.inside.order in
    let at = c.self.inside.at in
    let lt : c.args.first < length at.items = rw (← c.self.view_is) at c.requires.first in
    let stands : slice_get order.items c.args.first ≡ Some c.index-one.result.now = slice_get_read order.items _ _ _ order.ok.0 (omega (arith, lt, c.self.invariant.long, order.ok.0)) c.index-one.ensures in
    let within = slice_get_within at.items _ _ (c.self.invariant.forth c.args.first _ stands) in
    omega (arith, within, at.ok.0)

pub index_mut-requires-4 : goal.index_mut-requires-4
index_mut-requires-4 c =
    let order = c.self.inside.order in
    let at = c.self.inside.at in
    let lt : c.args.second < length at.items = rw (← c.self.view_is) at c.requires.second in
    let stands : slice_get order.items c.args.second ≡ Some c.index-other.result.now = slice_get_read order.items _ _ _ order.ok.0 (omega (arith, lt, c.self.invariant.long, order.ok.0)) c.index-other.ensures in
    let within = slice_get_within at.items _ _ (c.self.invariant.forth c.args.second _ stands) in
    omega (arith, within, at.ok.0)

pub invariant_of-self : goal.invariant_of-self
invariant_of-self c =
    let order = c.self.inside.order in
    let at = c.self.inside.at in
    let lt1 : c.args.first < length at.items = rw (← c.self.view_is) at c.requires.first in
    let lt2 : c.args.second < length at.items = rw (← c.self.view_is) at c.requires.second in
    let first : slice_get order.items c.args.first ≡ Some c.index-one.result.now = slice_get_read order.items _ _ _ order.ok.0 (omega (arith, lt1, c.self.invariant.long, order.ok.0)) c.index-one.ensures in
    let second : slice_get order.items c.args.second ≡ Some c.index-other.result.now = slice_get_read order.items _ _ _ order.ok.0 (omega (arith, lt2, c.self.invariant.long, order.ok.0)) c.index-other.ensures in
    exchange_keeps order.items at.items c.self.invariant c.args.first c.args.second _ _ first second

pub returns : goal.returns
returns c =
    let order = c.self.inside.order in
    let at = c.self.inside.at in
    let lt1 : c.args.first < length at.items = rw (← c.self.view_is) at c.requires.first in
    let lt2 : c.args.second < length at.items = rw (← c.self.view_is) at c.requires.second in
    let first : slice_get order.items c.args.first ≡ Some c.index-one.result.now = slice_get_read order.items _ _ _ order.ok.0 (omega (arith, lt1, c.self.invariant.long, order.ok.0)) c.index-one.ensures in
    let second : slice_get order.items c.args.second ≡ Some c.index-other.result.now = slice_get_read order.items _ _ _ order.ok.0 (omega (arith, lt2, c.self.invariant.long, order.ok.0)) c.index-other.ensures in
    rw (← c.self.view_is) (exchange_is order.items at.items c.self.invariant c.args.first c.args.second _ _ first second)
