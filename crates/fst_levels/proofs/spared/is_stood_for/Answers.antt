use Rattle.std.proofs.Common.{◌∙◌, sym, inl, inr}
use Rattle.fst_levels.proofs.{NeedsKept.hard_at, StoodFor.hard_at_index}
use Rattle.fst_heads.specs.Heads.{patches_of}
use Rattle.fst_types.specs.declared.place.Place.TheVariants as place
use Rattle.fst_levels.proofs.spared.is_stood_for.Goals as goal

pub returns-then-of-block : goal.returns-then-of-block
returns-then-of-block c e =
    let heads = c.args.heads.now.list.items in
    let of = c.in-Change.of in
    let hard = hard_at_index heads c.args.heads.now.rising c.args.number c.in-Some.index c.in-Some.ensures.found c.index-head.result.now c.index-head.ensures of (sym c.is_hard_in.ensures ∙ c.if-not-is_hard_in.false) in
    record { at = place.Memory; block = of; hard = hard; by = inl c.if-of-block.true }

pub returns-else-of-block : goal.returns-else-of-block
returns-else-of-block c e =
    let heads = c.args.heads.now.list.items in
    let of = c.in-Change.of in
    let row = c.has_hard.ensures e in
    let hard = hard_at_index heads c.args.heads.now.rising c.args.number c.in-Some.index c.in-Some.ensures.found c.index-head.result.now c.index-head.ensures of (sym c.is_hard_in.ensures ∙ c.if-not-is_hard_in.false) in
    record { at = place.Memory; block = of; hard = hard; by = inr (row.0, row.1, hard_at (patches_of heads) of row.0 row.2) }
