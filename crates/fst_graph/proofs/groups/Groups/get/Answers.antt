use Rattle.std.proofs.Common.{subst, sym, arith}
use Rattle.fst_graph.specs.Gathered.{group_of, HasGroupIndex, HasNoGroup, IsToldBegun}
use Rattle.fst_graph.proofs.Gathering.{index_group, no_group, only_group}
use Rattle.fst_graph.proofs.groups.Groups.get.Goals as goal

pub returns-in-None-clause-none : goal.returns-in-None-clause-none
returns-in-None-clause-none c = rw (← c.self.view_is) (no_group c.self.inside.items.items c.args.number (subst (λ gs. HasNoGroup gs c.args.number) c.deref.ensures.value c.in-None.ensures.none))

pub returns-in-Some-clause-some : goal.returns-in-Some-clause-some
returns-in-Some-clause-some c =
    let gs = c.self.inside.items.items in
    let index = subst (λ hs. HasGroupIndex hs c.args.number c.in-Some.index) c.deref.ensures.value c.in-Some.ensures.found in
    rw (← c.self.view_is) (index_group gs c.args.number c.in-Some.index c.index.result.now index c.index.ensures)

pub returns-in-Some-clause-begun : goal.returns-in-Some-clause-begun
returns-in-Some-clause-begun c =
    let index = subst (λ hs. HasGroupIndex hs c.args.number c.in-Some.index) c.deref.ensures.value c.in-Some.ensures.found in
    subst IsToldBegun (sym c.index.ensures) (c.self.invariant.begun c.in-Some.index c.index.result.now index.0)

pub returns-in-Some-clause-only : goal.returns-in-Some-clause-only
returns-in-Some-clause-only c =
    let gs = c.self.inside.items.items in
    let index = subst (λ hs. HasGroupIndex hs c.args.number c.in-Some.index) c.deref.ensures.value c.in-Some.ensures.found in
    rw (← c.self.view_is) (λ h is. only_group gs c.args.number (group_of c.index.result.now) h c.self.invariant.apart (index_group gs c.args.number c.in-Some.index c.index.result.now index c.index.ensures) is)

pub returns-in-Some-clause-narrow : goal.returns-in-Some-clause-narrow
returns-in-Some-clause-narrow c =
    let index = subst (λ hs. HasGroupIndex hs c.args.number c.in-Some.index) c.deref.ensures.value c.in-Some.ensures.found in
    let small = c.self.invariant.narrow c.in-Some.index c.index.result.now index.0 in
    let here = index.1 c.index.result.now in
    omega (arith, small, here)
