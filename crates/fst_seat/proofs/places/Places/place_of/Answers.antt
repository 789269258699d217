use Rattle.std.proofs.Common.{◌≡◌, Some, sym, ◌∙◌, slice_get, arith}
use Rattle.std.proofs.lemmas.Option.{slice_get_read, slice_get_within, same_Some}
use Rattle.fst_seat.proofs.places.Places.place_of.Goals as goal

pub returns-clause-alone : goal.returns-clause-alone
returns-clause-alone c =
    let at = c.self.inside.at in
    let stands : slice_get at.items c.args.block ≡ Some c.index.result.now = slice_get_read at.items _ _ _ at.ok.0 (rw (← c.self.view_is, ← at.ok.0) at c.requires) c.index.ensures in
    rw (← c.self.view_is) (λ other e. same_Some other c.args.block (sym (c.self.invariant.back other _ e) ∙ c.self.invariant.back c.args.block _ stands))

pub returns-clause-within : goal.returns-clause-within
returns-clause-within c =
    let at = c.self.inside.at in
    let stands : slice_get at.items c.args.block ≡ Some c.index.result.now = slice_get_read at.items _ _ _ at.ok.0 (rw (← c.self.view_is, ← at.ok.0) at c.requires) c.index.ensures in
    let lt = slice_get_within c.self.inside.order.items _ _ (c.self.invariant.back c.args.block _ stands) in
    rw (← c.self.view_is) (omega (arith, lt, c.self.invariant.long))
