use Rattle.std.proofs.Common.{◌∙◌, [], length, ap, arith}
use Rattle.std.proofs.lemmas.List.{length-map}
use Rattle.fst_levels.specs.Needing.{needs_of}
use Rattle.fst_levels.proofs.OneOfMany.{told_here, told_beside, room_left}
use Rattle.fst_levels.proofs.PutMore.{numbers_in}
use Rattle.fst_levels.proofs.needs.Needs.clear.Goals as goal

pub invariant_of-self : goal.invariant_of-self
invariant_of-self c =
    let s = c.self.inside in
    room_left s.lists.items c.args.block c.index_mut.result.now c.clear.new.self (omega (arith, c.requires, ap (λ v. length v.lists) c.self.view_is, length-map s.lists.items numbers_in)) c.index_mut.ensures.value (omega (arith, c.clear.ensures.len)) (omega (arith, c.clear.ensures.capacity)) s.block s.room c.self.invariant

pub returns-clause-others : goal.returns-clause-others
returns-clause-others c k other =
    told_beside numbers_in c.self.inside.lists.items c.args.block c.clear.new.self k [] other ∙ ap (λ v. needs_of v.lists k) c.self.view_is

pub returns-clause-cleared : goal.returns-clause-cleared
returns-clause-cleared c =
    told_here numbers_in c.self.inside.lists.items c.args.block c.clear.new.self [] (omega (arith, c.requires, ap (λ v. length v.lists) c.self.view_is, length-map c.self.inside.lists.items numbers_in)) ∙ c.clear.ensures.items
