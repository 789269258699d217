use Rattle.std.proofs.{Common.{rules, refl}, lemmas.List.Sorted.answers_always}
use Rattle.fst_graph.specs.declared.group.Group.{Group as Kept}
use Rattle.fst_heads.proofs.Indices.{searched_by}
use Rattle.fst_graph.proofs.Gathering.{heads_rise}
use Rattle.fst_graph.proofs.groups.index_of_group.Goals as goal

pub returns-in-Ok-clause-found : goal.returns-in-Ok-clause-found
returns-in-Ok-clause-found c =
    let facts = c.in-Ok.ensures in
    (searched_by (λ (g : Kept). g.head) c.args.groups.now (heads_rise c.args.groups.now c.requires.apart) c.args.number _ facts.bound (facts.position (λ g. g.head) (answers_always _ _ _ (λ f a r g called. search rules)))).found c.in-Ok.index refl

pub returns-in-Err-clause-none : goal.returns-in-Err-clause-none
returns-in-Err-clause-none c =
    let facts = c.in-Err.ensures in
    (searched_by (λ (g : Kept). g.head) c.args.groups.now (heads_rise c.args.groups.now c.requires.apart) c.args.number _ facts.bound (facts.position (λ g. g.head) (answers_always _ _ _ (λ f a r g called. search rules)))).none c.in-Err.field-0 refl
