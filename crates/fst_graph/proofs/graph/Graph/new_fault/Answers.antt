use Rattle.std.proofs.{Common.{◌≤◌, inr, length, arith}, lemmas.{List.length-map, Option.IfSome_then}}
use Rattle.fst_types.specs.Limits.{max_groups}
use Rattle.fst_graph.specs.Rows.{whole}
use Rattle.fst_graph.proofs.{PlaceOf.none_then, graph.Graph.new_fault.Goals.After-pair_fault}
use Rattle.fst_graph.proofs.graph.Graph.new_fault.Goals as goal

-- there is room for one more group
few : (c : After-pair_fault) → max_groups ≤ length c.self.inside.groups.items → ⊥
few c full = let many = c.len.ensures in let less = c.if-len-ge-MAX_GROUPS.false in omega (arith, full, many, less)

pub returns-clause-first : goal.returns-clause-first
returns-clause-first c = rw (← c.self.view_is, length-map c.self.inside.sparse.heads (whole c.self.inside.rows.items)) (IfSome_then c.pair_fault.result c.pair_fault.ensures.first (λ f first. inr (few (goal.at.returns-clause-first c).After-pair_fault, first)))

pub returns-clause-clear : goal.returns-clause-clear
returns-clause-clear c = rw (← c.self.view_is, length-map c.self.inside.sparse.heads (whole c.self.inside.rows.items)) (none_then c.pair_fault.result (λ clear. (few (goal.at.returns-clause-clear c).After-pair_fault, clear)) c.pair_fault.ensures.clear)
