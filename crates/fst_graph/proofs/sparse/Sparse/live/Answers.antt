use Rattle.std.proofs.Common.{◌∙◌, sym}
use Rattle.fst_graph.proofs.{RememberedLooks.live_count, Sound.view_gone}
use Rattle.fst_graph.proofs.sparse.Sparse.live.Goals as goal

pub returns : goal.returns
returns c = rw (← c.self.view_is) (c.self.invariant.0.beside.counted ∙ sym (live_count _ _ (view_gone c.self.invariant)))
