use Rattle.std.proofs.Common.{Some, refl}
use Rattle.fst_heads.specs.Heads.{patches_of}
use Rattle.fst_heads.proofs.Listing.{rising_patches}
use Rattle.fst_walks.proofs.Told.{told_back}
use Rattle.fst_walks.proofs.grade.grade_by_ways.Goals as goal

pub returns-in-Some-clause-told : goal.returns-in-Some-clause-told
returns-in-Some-clause-told c =
    let heads = c.args.sight.now.heads.now.list.items in
    told_back (patches_of heads) (rising_patches heads c.args.sight.now.heads.now.rising) c.requires.sees.disk c.args.block c.args.row.now c.soft.result (Some c.in-Some.end) c.soft.ensures.grade c.soft.ensures.end refl c.in-Some.ensures

pub returns-in-Some-leads_to_block-clause-told : goal.returns-in-Some-leads_to_block-clause-told
returns-in-Some-leads_to_block-clause-told c =
    let heads = c.args.sight.now.heads.now.list.items in
    let told = c.soft-in-Some-leads_to_block in
    told_back (patches_of heads) (rising_patches heads c.args.sight.now.heads.now.rising) c.requires.sees.disk c.args.block c.args.row.now told.result (Some c.in-Some-leads_to_block.end) told.ensures.grade told.ensures.end refl c.in-Some-leads_to_block.ensures
