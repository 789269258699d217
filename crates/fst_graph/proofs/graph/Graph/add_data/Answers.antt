use Rattle.std.proofs.Common.{sym, subst}
use Rattle.fst_heads.specs.Names.{numbers_of}
use Rattle.fst_graph.specs.{Known.{unprepared, with_groups, AddsChange}, Rows.whole_known, Whole.IsHeldWhole}
use Rattle.fst_graph.proofs.HeldWhole.{held_change, held_unprepared, make_refuses, held_same}
use Rattle.fst_graph.proofs.graph.Graph.add_data.Goals as goal

pub invariant_of-self : goal.invariant_of-self
invariant_of-self c = held_unprepared c.self.invariant c.in-Err.ensures.same

pub returns-in-Err-clause-refused : goal.returns-in-Err-clause-refused
returns-in-Err-clause-refused c = rw (← c.self.view_is) (make_refuses c.self.invariant _ c.in-Err.ensures.refused)

pub invariant_of-self-2 : goal.invariant_of-self-2
invariant_of-self-2 c =
    subst (λ rows. IsHeldWhole rows c.add_data.new.self c.self.inside.groups.items) (sym c.with-self-inside.ensures) (held_change c.self.invariant c.in-Ok.ensures.ok).1

pub returns-clause-ok : goal.returns-clause-ok
returns-clause-ok c =
    let p = c.self.inside.sparse in
    let q = c.add_data.new.self in
    let gs = c.self.inside.groups.items in
    rw (← c.self.view_is)
    (subst (λ more. AddsChange (unprepared (with_groups (whole_known c.self.inside.rows.items p) gs)) c.args.block.0 c.args.span.at c.args.span.len (numbers_of c.args.after.now) c.in-Ok.made.0.0 c.in-Ok.made.1 (with_groups (whole_known more q) gs)) (sym c.with-self-inside.ensures) (held_change c.self.invariant c.in-Ok.ensures.ok).0)

pub returns-in-Err-clause-same : goal.returns-in-Err-clause-same
returns-in-Err-clause-same c = rw (← c.self.view_is) (held_same c.self.invariant c.in-Err.ensures.same)
