use Rattle.std.proofs.Common.{◌≡◌, ℕ, take, get_or, Contains, subst, arith}
use Rattle.std.proofs.lemmas.List.{take_all, take_more}
use Rattle.fst_heads.specs.Nodes.{nodes_of, pending_in}
use Rattle.fst_walks.specs.Descending.{Visits}
use Rattle.fst_levels.specs.Walks.{numbers_met}
use Rattle.fst_walks.proofs.Visiting.{visits_next}
use Rattle.fst_heads.specs.declared.pending.Pending.TheVariants as pending
use Rattle.fst_walks.proofs.cycle.visit_row.Goals as goal

pub loop-number-preserved : goal.loop-number-preserved
loop-number-preserved c =
    let P : ℕ → Type 0 = λ m. pending_in (nodes_of c.args.sight.now.heads.now.list.items) m ≡ pending.Held in
    let row = c.args.row.now in
    let i = c.loop-number.number-index in
    let n = get_or row i 0 in
    record {
      visited = c.visit_held.ensures.visited;
      visits = rw (take_more row i 0 c.loop-number-test.true) (visits_next P P (take i row) n (numbers_met c.args.sight.now.heads.now.list.items c.args.walk.now) (numbers_met c.args.sight.now.heads.now.list.items c.loop-number.walk) (numbers_met c.args.sight.now.heads.now.list.items c.visit_held.new.walk) (λ m l. l) (λ l. l) c.loop-number.invariant.visits c.visit_held.ensures.visits);
    }

pub returns-clause-visits : goal.returns-clause-visits
returns-clause-visits c =
    let P : ℕ → Type 0 = λ m. pending_in (nodes_of c.args.sight.now.heads.now.list.items) m ≡ pending.Held in
    subst (λ ns. Visits (λ n. Contains ns n × P n) (numbers_met c.args.sight.now.heads.now.list.items c.args.walk.now) (numbers_met c.args.sight.now.heads.now.list.items c.loop-number.walk)) (take_all c.loop-number.number-index c.args.row.now (omega (arith, c.loop-number-test.false))) c.loop-number.invariant.visits
