use Rattle.std.proofs.lemmas.Result.{on_err_weaker}
use Rattle.std.proofs.{Common.{refl, inl, map, sym, ◌∙◌}, lemmas.Bool.false≢true}
use Rattle.fst_types.specs.Order.{depend_order}
use Rattle.fst_heads.specs.Names.{numbers_of}
use Rattle.fst_graph.specs.Rows.{whole}
use Rattle.fst_graph.proofs.Grouped.{answered, fine, failed, past_front, on_ok}
use Rattle.fst_graph.proofs.HeldWhole.{held_depend, held_unprepared, held_same}
use Rattle.fst_graph.proofs.WholeCalls.{depend_refuses}
use Rattle.fst_graph.proofs.graph.Graph.depend.Goals as goal

pub invariant_of-self : goal.invariant_of-self
invariant_of-self c = held_unprepared c.self.invariant c.unprepare.ensures

pub returns-then-has_gate-clause-refused : goal.returns-then-has_gate-clause-refused
returns-then-has_gate-clause-refused c = rw (← c.self.view_is) (inl (inl (c.has_gate.ensures.0 c.if-has_gate.true, refl)))

pub invariant_of-self-2 : goal.invariant_of-self-2
invariant_of-self-2 c = answered c.depend.result c.depend.ensures.ok c.depend.ensures.same (λ u a. (held_depend c.self.invariant a).1) (λ same. held_unprepared c.self.invariant same)

pub returns-clause-ok : goal.returns-clause-ok
returns-clause-ok c = rw (← c.self.view_is) (fine c.depend.result (λ u a. (held_depend c.self.invariant a).0) c.depend.ensures.ok)

pub returns-clause-refused : goal.returns-clause-refused
returns-clause-refused c =
    let p = c.self.inside.sparse in
    let rules = depend_order (map (whole c.self.inside.rows.items) p.heads) p.numbers c.args.gate.0 (numbers_of c.args.on.now) in
    rw (← c.self.view_is) (failed c.depend.result (λ f r. past_front c.self.inside.groups.items c.args.gate.0 rules f (λ h. false≢true (sym c.if-has_gate.false ∙ c.has_gate.ensures.1 h)) (depend_refuses c.self.inside.rows.items p c.self.invariant.whole c.args.gate.0 (numbers_of c.args.on.now) f r)) c.depend.ensures.refused)

pub returns-then-has_gate-clause-same : goal.returns-then-has_gate-clause-same
returns-then-has_gate-clause-same c = rw (← c.self.view_is) (held_same c.self.invariant c.unprepare.ensures)

pub returns-clause-same : goal.returns-clause-same
returns-clause-same c = rw (← c.self.view_is) (on_err_weaker c.depend.result (held_same c.self.invariant) c.depend.ensures.same)

pub returns-clause-blocks : goal.returns-clause-blocks
returns-clause-blocks c = rw (← c.self.view_is) c.depend.ensures.blocks

pub returns-clause-front : goal.returns-clause-front
returns-clause-front c = rw (← c.self.view_is) (on_ok c.depend.result (λ h. false≢true (sym c.if-has_gate.false ∙ c.has_gate.ensures.1 h)))
