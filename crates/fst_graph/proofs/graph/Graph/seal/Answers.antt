use Rattle.std.proofs.lemmas.Result.{on_err_weaker}
use Rattle.std.proofs.{Common.{refl, inl, inr, sym, ◌∙◌}, lemmas.Bool.false≢true}
use Rattle.fst_graph.proofs.Grouped.{answered, fine, failed, on_ok}
use Rattle.fst_graph.proofs.HeldWhole.{held_seal, held_unprepared, held_same}
use Rattle.fst_graph.proofs.WholeCalls.{seal_first}
use Rattle.fst_graph.proofs.graph.Graph.seal.Goals as goal

pub invariant_of-self : goal.invariant_of-self
invariant_of-self c = held_unprepared c.self.invariant c.unprepare.ensures

pub returns-then-has_gate-clause-refused : goal.returns-then-has_gate-clause-refused
returns-then-has_gate-clause-refused c = rw (← c.self.view_is) (inl (c.has_gate.ensures.0 c.if-has_gate.true, refl))

pub invariant_of-self-2 : goal.invariant_of-self-2
invariant_of-self-2 c = answered c.seal.result c.seal.ensures.ok c.seal.ensures.same (λ u a. (held_seal c.self.invariant (λ h. false≢true (sym c.if-has_gate.false ∙ c.has_gate.ensures.1 h)) a).1) (λ same. held_unprepared c.self.invariant same)

pub returns-clause-ok : goal.returns-clause-ok
returns-clause-ok c = rw (← c.self.view_is) (fine c.seal.result (λ u a. (held_seal c.self.invariant (λ h. false≢true (sym c.if-has_gate.false ∙ c.has_gate.ensures.1 h)) a).0) c.seal.ensures.ok)

pub returns-clause-refused : goal.returns-clause-refused
returns-clause-refused c = rw (← c.self.view_is) (failed c.seal.result (λ f x. inr ((λ h. false≢true (sym c.if-has_gate.false ∙ c.has_gate.ensures.1 h)), seal_first c.self.inside.rows.items c.self.inside.sparse c.self.invariant.whole c.args.gate.0 f x)) c.seal.ensures.refused)

pub returns-then-has_gate-clause-same : goal.returns-then-has_gate-clause-same
returns-then-has_gate-clause-same c = rw (← c.self.view_is) (held_same c.self.invariant c.unprepare.ensures)

pub returns-clause-same : goal.returns-clause-same
returns-clause-same c = rw (← c.self.view_is) (on_err_weaker c.seal.result (held_same c.self.invariant) c.seal.ensures.same)

pub returns-clause-blocks : goal.returns-clause-blocks
returns-clause-blocks c = rw (← c.self.view_is) c.seal.ensures.blocks

pub returns-clause-front : goal.returns-clause-front
returns-clause-front c = rw (← c.self.view_is) (on_ok c.seal.result (λ h. false≢true (sym c.if-has_gate.false ∙ c.has_gate.ensures.1 h)))
