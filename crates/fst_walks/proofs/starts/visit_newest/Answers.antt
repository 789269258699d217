use Rattle.std.proofs.Common.{◌≡◌, ◌<◌, ◌∙◌, ◌∷◌, [], ◌++◌, ℕ, get_or, length, take, Contains, subst, sym, arith, inl, inr}
use Rattle.std.proofs.lemmas.{Bool.false≢true, List.{get_or-map, length-map, take_all, take_more}, List.Elements.{Contains-append_left, Contains-push_cases}}
use Rattle.fst_heads.specs.{Heads.patches_of, Nodes.{nodes_of, pending_in}, Rows.IsTouched, declared.cover.Run.Run}
use Rattle.fst_walks.specs.{Descending.Visits, Starting.numbers_told}
use Rattle.fst_levels.specs.Walks.{numbers_met}
use Rattle.fst_walks.proofs.Visiting.{visits_next, visits_same}
use Rattle.fst_walks.proofs.starts.visit_newest.Goals.{then-is_touched, else-is_touched}
use Rattle.fst_heads.specs.declared.pending.Pending.TheVariants as pending
use Rattle.fst_walks.proofs.starts.visit_newest.Goals as goal

pub loop-run-preserved : goal.loop-run-preserved
loop-run-preserved c =
    let heads = c.args.sight.now.heads.now.list.items in
    let Held : ℕ → Type 0 = λ m. pending_in (nodes_of heads) m ≡ pending.Held in
    let Touched : ℕ → Type 0 = IsTouched (patches_of heads) c.args.block c.args.span.at c.args.span.len in
    let P : ℕ → Type 0 = λ m. Touched m × Held m in
    let ns = numbers_told c.args.runs.now in
    let i = c.loop-run.run-index in
    let long = length-map c.args.runs.now (λ (r : Run). r.number) in
    let inside : i < length ns = omega (arith, long, c.loop-run-test.true) in
    let n = get_or ns i 0 in
    let here : n ≡ (get_or c.args.runs.now i (record { from = 0; number = 0 })).number = get_or-map (λ (r : Run). r.number) c.args.runs.now i (record { from = 0; number = 0 }) 0 c.loop-run-test.true in
    let done = take i ns in
    let old = numbers_met heads c.args.walk.now in
    let mid = numbers_met heads c.loop-run.walk in
    let more = take_more ns i 0 inside in
    elim c.if-is_touched.branch [
      | then-is_touched w ↦
          let new = numbers_met heads w.visit_held.new.walk in
          rw (w.walk-is) record {
            visited = w.visit_held.ensures.visited;
            visits = rw more (visits_next P Held done n old mid new (λ m k. k.1) (λ held. (subst Touched (sym here) (c.is_touched.ensures.0 w.if-is_touched.true), held)) c.loop-run.invariant.visits
                (subst (λ k. Visits (λ m. (m ≡ k) × Held m) mid new) (sym here) w.visit_held.ensures.visits));
          }
      | else-is_touched w ↦
          rw (w.walk-is) record {
            visited = c.loop-run.invariant.visited;
            visits = rw more (visits_same (λ m. Contains done m × P m) (λ m. Contains (done ++ n ∷ []) m × P m) old mid
                (λ m k. (Contains-append_left done (n ∷ []) m k.0, k.1))
                (λ m k. elim (Contains-push_cases done n m k.0) [ inl before ↦ (before, k.1) | inr same ↦ absurd (false≢true (sym w.if-is_touched.false ∙ c.is_touched.ensures.1 (subst Touched (sym same ∙ here) k.1.0))) ])
                c.loop-run.invariant.visits);
          }
    ]

pub returns-clause-visits : goal.returns-clause-visits
returns-clause-visits c =
    let heads = c.args.sight.now.heads.now.list.items in
    let Touched : ℕ → Type 0 = IsTouched (patches_of heads) c.args.block c.args.span.at c.args.span.len in
    let Held : ℕ → Type 0 = λ m. pending_in (nodes_of heads) m ≡ pending.Held in
    let ns = numbers_told c.args.runs.now in
    let long = length-map c.args.runs.now (λ (r : Run). r.number) in
    let old = numbers_met heads c.args.walk.now in
    let new = numbers_met heads c.loop-run.walk in
    visits_same (λ n. Contains ns n × (Touched n × Held n)) (λ n. Contains ns n × Touched n × Held n) old new (λ n k. (k.0, k.1.0, k.1.1)) (λ n k. (k.0, (k.1, k.2)))
    (subst (λ rs. Visits (λ n. Contains rs n × (Touched n × Held n)) old new) (take_all c.loop-run.run-index ns (omega (arith, long, c.loop-run-test.false))) c.loop-run.invariant.visits)
