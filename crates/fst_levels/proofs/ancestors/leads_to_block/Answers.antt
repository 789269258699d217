use Rattle.std.proofs.Common.{get_or, arith}
use Rattle.std.proofs.lemmas.{List.Elements.Contains-get_or, Option.IfSome_then}
use Rattle.fst_heads.specs.Heads.{patches_of}
use Rattle.fst_heads.proofs.Listing.{rising_patches}
use Rattle.fst_levels.proofs.Ancestral.{leads_back}
use Rattle.fst_levels.proofs.ancestors.leads_to_block.Goals as goal

pub returns-then-is_some : goal.returns-then-is_some
returns-then-is_some c =
    let heads = c.args.sight.now.heads.now.list.items in
    let sees = c.requires.sees in
    let few = c.newest_few-number-items.result.now in
    let i = c.loop-number.number-index in
    let top = get_or few i 0 in
    let named = c.newest_few-number-items.ensures.only top (Contains-get_or few i 0 (omega (arith, c.loop-number-test.true))) in
    IfSome_then c.leads_to_one-end.result c.leads_to_one-end.ensures (λ n k.
    leads_back (patches_of heads) (rising_patches heads c.args.sight.now.heads.now.rising) sees.disk c.args.block c.args.row.now top c.in-Some.off n named c.in-Some.ensures.under c.in-Some.ensures.off k.1 (c.newest_changes-changes.ensures n k.0))
