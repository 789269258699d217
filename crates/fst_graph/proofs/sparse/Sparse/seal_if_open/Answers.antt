use Rattle.std.proofs.Common.{subst}
use Rattle.fst_types.specs.Facts.{SparseAreLawful}
use Rattle.fst_heads.specs.{Heads.patches_of, Nodes.{is_forgotten_in, nodes_of}}
use Rattle.fst_graph.specs.Known.{Known}
use Rattle.fst_graph.proofs.{GateIndex.seals_if_open, Remembered.remembered_lawful, Sound.view_gone}
use Rattle.fst_graph.proofs.sparse.Sparse.seal_if_open.Goals as goal

pub returns-clause-sealed : goal.returns-clause-sealed
returns-clause-sealed c =
    let heads = c.self.inside.columns.heads.list.items in
    let kept = remembered_lawful (is_forgotten_in (nodes_of heads)) (patches_of heads) c.self.inside.numbers (view_gone c.self.invariant) c.self.invariant.0.keeps.lawful in
    let H = subst (λ (v : Known). SparseAreLawful v.heads v.numbers) c.self.view_is kept in
    seals_if_open c.args.self.now c.seal.new.self c.args.gate H c.seal.result c.seal.ensures.ok c.seal.ensures.refused c.seal.ensures.same
