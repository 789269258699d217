use Rattle.std.proofs.Common.{◌≡◌, ◌∙◌, ℕ, get_or, take, ap, subst, sym, arith}
use Rattle.std.proofs.lemmas.List.{take_all, take_more, map_push}
use Rattle.fst_heads.specs.{Lists.{entry_of, entries_of}, Nodes.{nodes_of, pending_in}, declared.lists.Listed.Listed}
use Rattle.fst_walks.specs.{Descending.Visits, Starting.IsSharing}
use Rattle.fst_levels.specs.Walks.{numbers_met}
use Rattle.fst_walks.proofs.Overlapped.{sharing_none, sharing_more, sharing_skip}
use Rattle.fst_walks.proofs.starts.visit_overlapped.Goals.{then-shares, else-shares}
use Rattle.fst_heads.specs.declared.pending.Pending.TheVariants as pending
use Rattle.fst_walks.proofs.starts.visit_overlapped.Goals as goal

pub loop-listed-init : goal.loop-listed-init
loop-listed-init c = record { visited = c.requires.visited; visits = sharing_none (λ n. pending_in (nodes_of c.args.sight.now.heads.now.list.items) n ≡ pending.Held) c.args.span.at c.args.span.len (numbers_met c.args.sight.now.heads.now.list.items c.args.walk.now) }

pub loop-listed-preserved : goal.loop-listed-preserved
loop-listed-preserved c =
    let Held : ℕ → Type 0 = λ n. pending_in (nodes_of c.args.sight.now.heads.now.list.items) n ≡ pending.Held in
    let list = c.args.list.now in
    let i = c.loop-listed.listed-index in
    let none : Listed = record { number = 0; span = record { at = 0; len = 0 } } in
    let at = c.args.span.at in
    let len = c.args.span.len in
    let done = entries_of (take i list) in
    let e = entry_of (get_or list i none) in
    let more = ap entries_of (take_more list i none c.loop-listed-test.true) ∙ map_push entry_of (take i list) (get_or list i none) in
    elim c.if-shares.branch [
      | then-shares w ↦
          rw (w.walk-is) record {
            visited = w.visit_held.ensures.visited;
            visits = rw more (sharing_more at len done e Held (numbers_met c.args.sight.now.heads.now.list.items c.args.walk.now) (numbers_met c.args.sight.now.heads.now.list.items c.loop-listed.walk) (numbers_met c.args.sight.now.heads.now.list.items w.visit_held.new.walk) (sym c.shares.ensures ∙ w.if-shares.true) c.loop-listed.invariant.visits w.visit_held.ensures.visits);
          }
      | else-shares w ↦
          rw (w.walk-is) record {
            visited = c.loop-listed.invariant.visited;
            visits = rw more (sharing_skip at len done e Held (numbers_met c.args.sight.now.heads.now.list.items c.args.walk.now) (numbers_met c.args.sight.now.heads.now.list.items c.loop-listed.walk) (sym c.shares.ensures ∙ w.if-shares.false) c.loop-listed.invariant.visits);
          }
    ]

pub returns-clause-visits : goal.returns-clause-visits
returns-clause-visits c =
    let Held : ℕ → Type 0 = λ n. pending_in (nodes_of c.args.sight.now.heads.now.list.items) n ≡ pending.Held in
    subst (λ ls. Visits (λ n. IsSharing c.args.span.at c.args.span.len (entries_of ls) n × Held n) (numbers_met c.args.sight.now.heads.now.list.items c.args.walk.now) (numbers_met c.args.sight.now.heads.now.list.items c.loop-listed.walk)) (take_all c.loop-listed.listed-index c.args.list.now (omega (arith, c.loop-listed-test.false))) c.loop-listed.invariant.visits
