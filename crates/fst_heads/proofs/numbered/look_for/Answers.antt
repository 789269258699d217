use Rattle.fst_heads.proofs.{Basics.{rules, refl, answers_always}, Indices.searched_by}
use Rattle.fst_heads.proofs.numbered.look_for.Goals as goal

pub returns-in-Ok-clause-found : goal.returns-in-Ok-clause-found
returns-in-Ok-clause-found g c =
    let facts = c.in-Ok.ensures in
    (searched_by g.T.Numbered.numbered c.args.list.now c.requires c.args.number _ facts.bound (facts.position g.T.Numbered.numbered (answers_always _ _ _ (λ f a r h called. search rules)))).found c.in-Ok.index refl

pub returns-in-Err-clause-none : goal.returns-in-Err-clause-none
returns-in-Err-clause-none g c =
    let facts = c.in-Err.ensures in
    (searched_by g.T.Numbered.numbered c.args.list.now c.requires c.args.number _ facts.bound (facts.position g.T.Numbered.numbered (answers_always _ _ _ (λ f a r h called. search rules)))).none c.in-Err.field-0 refl
