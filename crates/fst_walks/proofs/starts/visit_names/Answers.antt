use Rattle.std.proofs.Common.{◌≡◌, ◌∙◌, ℕ, take, get_or, Contains, ap, subst, arith}
use Rattle.std.proofs.lemmas.List.{take_all, take_more, map_push}
use Rattle.fst_types.specs.declared.number.PatchNo.{PatchNo}
use Rattle.fst_heads.specs.{Names.numbers_of, Nodes.{nodes_of, pending_in}}
use Rattle.fst_walks.specs.Descending.{Visits}
use Rattle.fst_levels.specs.Walks.{numbers_met}
use Rattle.fst_walks.proofs.Visiting.{visits_next}
use Rattle.fst_heads.specs.declared.pending.Pending.TheVariants as pending
use Rattle.fst_walks.proofs.starts.visit_names.Goals as goal

pub loop-name-preserved : goal.loop-name-preserved
loop-name-preserved c =
    let P : ℕ → Type 0 = λ m. pending_in (nodes_of c.args.sight.now.heads.now.list.items) m ≡ pending.Held in
    let names = c.args.names.now in
    let i = c.loop-name.name-index in
    let none : PatchNo = record { 0 = 0 } in
    let n = (get_or names i none).0 in
    let more = ap numbers_of (take_more names i none c.loop-name-test.true) ∙ map_push (λ (m : PatchNo). m.0) (take i names) (get_or names i none) in
    record {
      visited = c.visit_held.ensures.visited;
      visits = rw more (visits_next P P (numbers_of (take i names)) n (numbers_met c.args.sight.now.heads.now.list.items c.args.walk.now) (numbers_met c.args.sight.now.heads.now.list.items c.loop-name.walk) (numbers_met c.args.sight.now.heads.now.list.items c.visit_held.new.walk) (λ m l. l) (λ l. l) c.loop-name.invariant.visits c.visit_held.ensures.visits);
    }

pub returns-clause-visits : goal.returns-clause-visits
returns-clause-visits c =
    let P : ℕ → Type 0 = λ m. pending_in (nodes_of c.args.sight.now.heads.now.list.items) m ≡ pending.Held in
    subst (λ ns. Visits (λ n. Contains (numbers_of ns) n × P n) (numbers_met c.args.sight.now.heads.now.list.items c.args.walk.now) (numbers_met c.args.sight.now.heads.now.list.items c.loop-name.walk)) (take_all c.loop-name.name-index c.args.names.now (omega (arith, c.loop-name-test.false))) c.loop-name.invariant.visits
