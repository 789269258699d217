use Rattle.std.proofs.{Common.{◌<◌, true, ap, subst, refl}, lemmas.List.Elements.All-set}
use Rattle.fst_graph.specs.{Gathered.{group_of, HasGroupIndex, HasNoGroup, IsToldBegun}, declared.group.Group.Group as Kept}
use Rattle.fst_graph.proofs.Gathering.{apart_set, heads_rise, with_index, with_none}
use Rattle.fst_graph.proofs.groups.Groups.close.Goals as goal

pub invariant_of-self : goal.invariant_of-self
invariant_of-self c =
    let gs = c.self.inside.items.items in
    let own = c.index_mut.result.now in
    let index = subst (λ hs. HasGroupIndex hs c.args.group c.in-Some.index) c.deref.ensures.value c.in-Some.ensures.found in
    record {
      apart = apart_set gs c.in-Some.index _ own c.index_mut.ensures.value refl c.self.invariant.apart;
      begun = All-set IsToldBegun gs c.in-Some.index _ (rw c.index_mut.ensures.value (c.self.invariant.begun c.in-Some.index own index.0)) c.self.invariant.begun;
      narrow = All-set (λ (g : Kept). g.head < 4294967295) gs c.in-Some.index _ (rw c.index_mut.ensures.value (c.self.invariant.narrow c.in-Some.index own index.0)) c.self.invariant.narrow;
    }

pub returns-in-Some : goal.returns-in-Some
returns-in-Some c =
    let gs = c.self.inside.items.items in
    let index = subst (λ hs. HasGroupIndex hs c.args.group c.in-Some.index) c.deref.ensures.value c.in-Some.ensures.found in
    rw (← c.self.view_is) (with_index gs c.args.group c.in-Some.index (λ g. record g { closed = true }) _ c.index_mut.result.now (heads_rise gs c.self.invariant.apart) index
    (ap (λ (h : Kept). record (group_of h) { closed = true }) c.index_mut.ensures.value))

pub returns-in_default : goal.returns-in_default
returns-in_default c =
    let gs = c.self.inside.items.items in
    rw (← c.self.view_is) (with_none gs c.args.group (λ g. record g { closed = true }) (subst (λ hs. HasNoGroup hs c.args.group) c.deref.ensures.value c.in_default.ensures.none))
