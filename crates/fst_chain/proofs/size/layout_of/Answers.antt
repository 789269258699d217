use denote.Param.{layout}
use Rattle.fst_chain.proofs.Sizes.{layout_some, layout_none}
use Rattle.fst_chain.proofs.size.layout_of.Goals as goal

pub returns-in-Some : goal.returns-in-Some
returns-in-Some g c = layout_some (layout g.row.X) c.args.len c.saturating_add-end.result c.header_align-align.result (rw (← c.header_size.ensures) c.saturating_add-end.ensures) c.header_align-align.ensures c.in-Some.size c.in-Some.ensures.0.1 c.in-Some.ensures.1

pub returns-in-None : goal.returns-in-None
returns-in-None g c = layout_none (layout g.row.X) c.args.len c.saturating_add-end.result c.header_align-align.result (rw (← c.header_size.ensures) c.saturating_add-end.ensures) c.header_align-align.ensures c.in-None.ensures
