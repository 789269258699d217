use Rattle.std.proofs.lemmas.List.{length-map}
use Rattle.std.proofs.Common.{◌≤◌, refl, arith, length}
use Rattle.fst_seat.proofs.Seated.{there_is}
use Rattle.fst_cache.proofs.SendBytes.{may_send, loaded_is, chosen_here, image_is}
use Rattle.fst_cache.proofs.cache.Cache.image.Goals as goal

pub image-requires-clause-within : goal.image-requires-clause-within
image-requires-clause-within g c =
    let there : length c.args.self.now.state.blocks ≤ c.args.block.0 → ⊥ = c.requires.clear.0 in
    let seated : length c.self.inside.seats.seats ≤ c.args.block.0 → ⊥ = rw (← c.self.view_is, length-map) at there in
    omega (arith, seated)

pub image-requires-clause-loaded : goal.image-requires-clause-loaded
image-requires-clause-loaded g c =
    λ seat at_b.
    let S = may_send c.self.inside c.args.self.now c.self.view_is c.self.invariant c.requires.clear c.requires.chosen at_b in
    rw (loaded_is c.self.inside S) refl

pub image-requires-clause-choice : goal.image-requires-clause-choice
image-requires-clause-choice g c =
    λ seat at_b.
    let S = may_send c.self.inside c.args.self.now c.self.view_is c.self.invariant c.requires.clear c.requires.chosen at_b in
    chosen_here c.self.inside S

pub returns-clause-image : goal.returns-clause-image
returns-clause-image g c =
    let there : length c.args.self.now.state.blocks ≤ c.args.block.0 → ⊥ = c.requires.clear.0 in
    let past : length c.self.inside.seats.seats ≤ c.args.block.0 → ⊥ = rw (← c.self.view_is, length-map) at there in
    let is = there_is c.self.inside.seats.seats c.args.block.0 (omega (arith, past)) in
    let S = may_send c.self.inside c.args.self.now c.self.view_is c.self.invariant c.requires.clear c.requires.chosen is.1 in
    let loaded = loaded_is c.self.inside S in
    let image = image_is c.self.inside S in
    rw (← c.self.view_is, ← image) (rw loaded at (c.image.ensures.image is.0 is.1))

pub returns-clause-only_memory : goal.returns-clause-only_memory
returns-clause-only_memory g c = c.image.ensures.only_memory

pub invariant_of-self : goal.invariant_of-self
invariant_of-self g c = rw c.image.ensures.unchanged c.self.invariant

pub returns-clause-same : goal.returns-clause-same
returns-clause-same g c = rw c.image.ensures.unchanged c.self.view_is
