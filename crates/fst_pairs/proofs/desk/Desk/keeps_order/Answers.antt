use Rattle.std.proofs.Common.{sym, ◌∙◌}
use Rattle.std.proofs.lemmas.List.{length-map}
use Rattle.fst_pairs.specs.LaneView.{ends_of, free_of}
use Rattle.fst_pairs.proofs.desk.Desk.keeps_order.Goals as goal

pub returns-clause-lanes : goal.returns-clause-lanes
returns-clause-lanes g c = rw (← c.self.view_is) c.self.invariant.1

pub returns-clause-free : goal.returns-clause-free
returns-clause-free g c = rw (← c.self.view_is) (length-map c.self.inside.lanes.items free_of ∙ sym (length-map c.self.inside.lanes.items ends_of))
