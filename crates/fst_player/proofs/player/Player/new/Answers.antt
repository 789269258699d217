use Rattle.std.proofs.Common.{◌≡◌, ◌∙◌, ap, refl, map, length}
use Rattle.std.specs.Prelude.{replicate}
use Rattle.fst_types.specs.Opening.{opening}
use Rattle.fst_device.specs.MemoryView.{MemoryView}
use Rattle.fst_player.proofs.ZeroLemmas.{indices_are, sizes_are, bytes_are, open_fault, opened_kept}
use Rattle.fst_player.proofs.player.Player.new.Goals as goal

pub returns-in-Ok-open : goal.returns-in-Ok-open
returns-in-Ok-open c =
    let shape = c.args.shape in
    let bytes : map (λ (s : MemoryView). s.bytes) c.in-Ok.slots.items ≡ replicate shape.blocks (replicate shape.size 0) = ap (map (λ (s : MemoryView). s.bytes)) c.in-Ok.ensures ∙ bytes_are shape.size 0 shape.blocks in
    rw (c.new.ensures.items, c.none.ensures, c.share-share.ensures.same, c.in-Ok-open.ensures.opened, bytes) refl

pub invariant_of-result : goal.invariant_of-result
invariant_of-result c =
    let shape = c.args.shape in
    let bytes : map (λ (s : MemoryView). s.bytes) c.in-Ok.slots.items ≡ replicate shape.blocks (replicate shape.size 0) = ap (map (λ (s : MemoryView). s.bytes)) c.in-Ok.ensures ∙ bytes_are shape.size 0 shape.blocks in
    opened_kept shape _ _ _ _ _ c.share-share.ensures.share (ap (λ x. x.state) (c.share-share.ensures.same ∙ c.in-Ok-open.ensures.opened) ∙ ap (opening shape.size shape.resident 0 0) bytes) c.new.ensures.items c.none.ensures c.in-Ok-zeros.ensures

pub returns-in-Err : goal.returns-in-Err
returns-in-Err c =
    let shape = c.args.shape in
    let e = c.in-Ok.ensures in
    open_fault shape.blocks shape.size _ _ _
    (ap (map (λ (s : MemoryView). s.index)) e ∙ indices_are shape.size 0 shape.blocks)
    (ap (map (λ (s : MemoryView). length s.bytes)) e ∙ sizes_are shape.size 0 shape.blocks)
    c.in-Err.ensures.refused
