use Rattle.fst_heads.proofs.{Basics.{◌≡◌, ◌≤◌, ◌+◌, ◌∙◌, ◌||◌, ◌==◌, ◌∷◌, ◌++◌, nat_lt, nat_tests, ap, sym, subst, arith, take, drop, false, or-false}, Runs.{parts_rise, put_in, put_rises, put_own, put_beside}, Words.{AreParted, AreRising, Covering, Run, max_from}}
use Rattle.fst_heads.specs.Covers.{last_in, newest_in}
use Rattle.fst_heads.proofs.cover.Cover.put.Goals as goal

pub lay-requires-clause-ordered : goal.lay-requires-clause-ordered
lay-requires-clause-ordered c =
    let from = c.from.ensures in
    let end = c.from-2.ensures in
    let before = c.if-from-end.true in
    parts_rise _ _ _ _ _ (omega (arith, from, end, before)) c.before-first.ensures c.before-past.ensures

sum : (c : goal.After-lay) → c.in-Some.end ≡ c.args.span.at + c.args.span.len
sum c = c.in-Some.ensures.1

early : (c : goal.After-lay) → AreParted c.self.inside.runs.items c.args.span.at c.before-first.result
early c = subst (λ (v : Covering). AreParted v.runs.items c.args.span.at c.before-first.result) (sym c.self.view_is) (subst (λ n. AreParted c.args.self.now.runs.items n c.before-first.result) c.from.ensures c.before-first.ensures)

late : (c : goal.After-lay) → AreParted c.self.inside.runs.items (c.args.span.at + c.args.span.len + 1) c.before-past.result
late c =
    let end : c.from-2.result ≡ c.args.span.at + c.args.span.len = c.from-2.ensures ∙ sum c in
    subst (λ (v : Covering). AreParted v.runs.items (c.args.span.at + c.args.span.len + 1) c.before-past.result) (sym c.self.view_is) (subst (λ n. AreParted c.args.self.now.runs.items (n + 1) c.before-past.result) end c.before-past.ensures)

some : (c : goal.After-lay) → 1 ≤ c.args.span.len
some c = let end = sum c in let before = c.if-from-end.true in omega (arith, end, before)

made : (c : goal.After-lay) → c.lay.new.runs.items ≡ put_in c.self.inside.runs.items c.args.span.at c.args.span.len c.args.number c.before-first.result c.before-past.result c.self.invariant (some c) (early c) (late c)
made c =
    let runs = c.self.inside.runs.items in
    let own : Run = record { from = c.args.span.at; number = c.args.number } in
    let after = subst (λ (v : Covering). c.number_after-after.result ≡ last_in 0 (take c.before-past.result v.runs.items)) (sym c.self.view_is) c.number_after-after.ensures in
    c.lay.ensures
    ∙ ap (λ e. take c.before-first.result runs ++ own ∷ record { from = e; number = c.number_after-after.result } ∷ drop c.before-past.result runs) (sum c)
    ∙ ap (λ k. take c.before-first.result runs ++ own ∷ record { from = c.args.span.at + c.args.span.len; number = k } ∷ drop c.before-past.result runs) after

pub invariant_of-self-2 : goal.invariant_of-self-2
invariant_of-self-2 c = subst AreRising (sym (made c)) (put_rises c.self.inside.runs.items c.args.span.at c.args.span.len c.args.number c.before-first.result c.before-past.result c.self.invariant (some c) (early c) (late c))

-- the runs tell of it
told : (c : goal.After-lay) → ((c.args.span.len == 0) || nat_lt max_from (c.args.span.at + c.args.span.len)) ≡ false
told c = let has = some c in let fits = c.in-Some.ensures.0 in grind (arith, nat_tests)

pub returns : goal.returns
returns c =
    let runs = c.self.inside.runs.items in
    let at = c.args.span.at in
    let len = c.args.span.len in
    let own = put_own runs at len c.args.number c.before-first.result c.before-past.result c.self.invariant (some c) (early c) (late c) in
    let beside = put_beside runs at len c.args.number c.before-first.result c.before-past.result c.self.invariant (some c) (early c) (late c) in
    rw (← c.self.view_is) (record {
      untold = sym (ap (λ b. c.self.inside.untold || b) (told c) ∙ or-false c.self.inside.untold);
      own = λ fits x lo hi. ap (λ rs. newest_in 0 rs x) (made c) ∙ own x lo hi;
      beside = λ x off. ap (λ rs. newest_in 0 rs x) (made c) ∙ beside x off;
    })
