use Rattle.std.proofs.{Common.{◌∙◌, refl, sym}, lemmas.Bool.false≢true}
use Rattle.fst_heads.specs.Heads.{patches_of}
use Rattle.fst_heads.proofs.Graded.{passes_open, open_passes}
use Rattle.fst_graph.proofs.member.if_open.Goals as goal

pub returns-then-passes_at-clause-some : goal.returns-then-passes_at-clause-some
returns-then-passes_at-clause-some c = (refl, passes_open (patches_of c.args.sight.now.heads.now.list.items) c.args.number (c.passes_at.ensures.0 c.if-passes_at.true))

pub returns-else-passes_at-clause-none : goal.returns-else-passes_at-clause-none
returns-else-passes_at-clause-none c o = false≢true (sym c.if-passes_at.false ∙ c.passes_at.ensures.1 (open_passes (patches_of c.args.sight.now.heads.now.list.items) c.args.number o))
