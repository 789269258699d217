use Rattle.std.proofs.Common.{◌≡◌, ℕ, true, List, map, set, refl, sym, ap, ◌∙◌}
use Rattle.std.specs.Global.{Vec}
use Rattle.std.proofs.lemmas.List.{map-set}
use Rattle.fst_device.specs.contracts.outcome.Outcome.{the_type}
use Rattle.fst_device.specs.declared.outcome.Outcome.{Outcome}
use Rattle.fst_device.specs.declared.outcome.Outcome.TheVariants.{Written, Failed}
use Rattle.fst_device.specs.Outcomes.{is_written}
use Rattle.fst_player.proofs.committed.Committed.take_in.Goals as goal
use denote.Enum.Bare.{sameb}

has_written : (o : Outcome) → sameb the_type o Written ≡ true → is_written o ≡ true
has_written Written h = refl
has_written Failed h = h

pub returns-then-eq : goal.returns-then-eq
returns-then-eq c =
    let i = c.self.inside in
    let done = c.args.done.now in
    let kept : List (List ℕ) = map (λ (b : Vec ℕ). b.items) i.blocks.items in
    let written : done.written ≡ true = sym c.outcome.ensures ∙ has_written c.outcome.result (sym c.eq.ensures ∙ c.if-eq.true) in
    rw (written, ← c.self.view_is)
    (map-set (λ (b : Vec ℕ). b.items) i.blocks.items c.block.result.0 c.copy_from_slice.new.self
    ∙ (ap (λ n. set kept n c.copy_from_slice.new.self.items) c.block.ensures ∙ ap (set kept done.block) (c.copy_from_slice.ensures.items ∙ c.image.ensures)))
