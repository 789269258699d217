use Rattle.fst_heads.proofs.{Basics.{rules, refl, answers_always, Ok, Err}, Runs.{parted_by_search}}
use Rattle.fst_heads.proofs.cover.Cover.before.Goals as goal

pub returns-in-Ok : goal.returns-in-Ok
returns-in-Ok c =
    let facts = c.in-Ok.ensures in
    rw (← c.self.view_is) ((parted_by_search c.self.inside.runs.items c.deref.result.now c.deref.ensures.value c.self.invariant c.args.byte (Ok c.in-Ok.at) facts.bound (facts.position (λ r. r.from) (answers_always _ _ _ (λ f a r g called. search rules)))).found c.in-Ok.at refl)

pub returns-in-Err : goal.returns-in-Err
returns-in-Err c =
    let facts = c.in-Err.ensures in
    rw (← c.self.view_is) ((parted_by_search c.self.inside.runs.items c.deref.result.now c.deref.ensures.value c.self.invariant c.args.byte (Err c.in-Err.at) facts.bound (facts.position (λ r. r.from) (answers_always _ _ _ (λ f a r g called. search rules)))).none c.in-Err.at refl)
