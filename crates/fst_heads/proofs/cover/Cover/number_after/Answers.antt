use Rattle.fst_heads.proofs.{Basics.{◌∙◌, ◌≤◌, length, ap, sym, subst, take, arith}, Runs.{last_of_some}, Words.{Covering, Run}}
use Rattle.fst_heads.specs.Covers.{last_in}
use Rattle.fst_heads.proofs.cover.Cover.number_after.Goals as goal

pub returns-then-runs-eq0 : goal.returns-then-runs-eq0
unfolding last_in
returns-then-runs-eq0 c = sym (ap (λ k. last_in 0 (take k c.args.self.now.runs.items)) c.if-runs-eq0.true)

pub returns : goal.returns
returns c =
    let some = c.if-runs-eq0.false in
    let few = subst (λ (v : Covering). c.args.runs ≤ length v.runs.items) (sym c.self.view_is) c.requires in
    rw (← c.self.view_is) (ap (λ (r : Run). r.number) c.index.ensures ∙ sym (last_of_some c.self.inside.runs.items c.args.runs 0 c.index.result.now (omega (arith, some)) few))
