use Rattle.std.proofs.Common.{[]}
use Rattle.fst_heads.specs.Heads.{patches_of}
use Rattle.fst_heads.proofs.Touching.{touched_overlaps, overlaps_touched}
use Rattle.fst_types.specs.declared.grade.Grade.TheVariants as grade
use Rattle.fst_graph.proofs.refusals.reaches_tail.Goals as goal

pub returns-clause-reaches : goal.returns-clause-reaches
returns-clause-reaches c =
    let heads = patches_of c.args.sight.now.heads.now.list.items in (
      λ e. let t = c.overlap_reaches.ensures.reaches.0 e in (t.0, touched_overlaps heads c.args.block c.args.span.at c.args.span.len 0 grade.Soft [] t.0 t.1, t.2),
      λ o. c.overlap_reaches.ensures.reaches.1 (o.0, overlaps_touched heads c.args.block c.args.span.at c.args.span.len 0 grade.Soft [] o.0 o.1, o.2),
    )
