use Rattle.std.proofs.Common.{◌<◌, ◌≤◌, inl, length, refl, arith}
use Rattle.std.proofs.lemmas.List.{length-map}
use Rattle.fst_cache.proofs.cache.Cache.show_fault.Goals.{After-len}
use Rattle.fst_cache.proofs.cache.Cache.show_fault.Goals as goal

there : (g : _) (c : After-len g) → c.args.block.0 < c.len.result → length c.args.self.now.state.blocks ≤ c.args.block.0 → ⊥
there g c lt = rw (← c.self.view_is, length-map) (λ past. omega (arith, c.len.ensures, lt, past))

pub has_room-requires : goal.has_room-requires
has_room-requires g c = rw (← c.self.view_is, length-map) (omega (arith, c.if-block-len.false, c.len.ensures))

pub returns-then-block-len : goal.returns-then-block-len
returns-then-block-len g c =
    let past : length c.args.self.now.state.blocks ≤ c.args.block.0 = rw (← c.self.view_is, length-map) (omega (arith, c.if-block-len.true, c.len.ensures)) in
    inl (past, refl)

pub returns : goal.returns
returns g c = (there g (goal.at.returns g c).After-len c.if-block-len.false, (c.has_room.ensures.0 c.if-not-has_room.false, tt))
