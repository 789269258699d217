use Rattle.fst_heads.specs.{Heads.patches_of, Lists.entries_of}
use Rattle.fst_heads.proofs.Listing.{listed_at}
use Rattle.fst_graph.proofs.prepared.prepare.Goals as goal

pub sparse_row-requires-clause-listed : goal.sparse_row-requires-clause-listed
sparse_row-requires-clause-listed c =
    rw (c.deref.ensures.value, ← c.index-sight-block.is) (listed_at (λ l. entries_of l.items) (patches_of c.args.sight.now.heads.now.list.items) c.args.sight.now.lists.now c.args.block c.index-sight-block.result c.requires.block c.index-sight-block.is c.requires.sees.listed)

pub sparse_row-requires-clause-covered : goal.sparse_row-requires-clause-covered
sparse_row-requires-clause-covered c = c.requires.sees.covered.each c.args.block c.index-sight-block-2.result c.requires.block
