use Rattle.std.proofs.{Common.{◌<◌, subst, sym, All}, lemmas.List.Elements.All-push}
use Rattle.fst_graph.specs.{Gathered.{Gathered, IsToldBegun}, declared.group.Group.Group as Kept}
use Rattle.fst_graph.proofs.Gathering.{apart_push, told_none}
use Rattle.fst_graph.proofs.groups.Groups.add.Goals as goal

pub invariant_of-self : goal.invariant_of-self
invariant_of-self c =
    let gs = c.self.inside.items.items in
    let past = subst (λ (v : Gathered). All (λ g. g.tail < c.args.number) v.items) (sym c.self.view_is) c.requires.past in
    rw c.push_reserved.ensures.items (record {
      apart = apart_push gs _ c.self.invariant.apart past;
      begun = All-push IsToldBegun gs _ c.self.invariant.begun (rw c.no_numbers.ensures told_none);
      narrow = All-push (λ (g : Kept). g.head < 4294967295) gs _ c.self.invariant.narrow c.requires.narrow;
    })
