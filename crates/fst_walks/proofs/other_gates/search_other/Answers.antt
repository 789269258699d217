use Rattle.std.proofs.Common.{◌≡◌, ◌∙◌, ◌<◌, ◌≤◌, ℕ, Some, length, get_or, Contains, refl, sym, ap, subst, inl, inr, arith}
use Rattle.std.proofs.{lemmas.Bool.{cases_eq, false≢true}, lemmas.Grind.common_steps, lemmas.List.get_or_append_left, lemmas.List.Elements.Contains-get_or}
use Rattle.fst_heads.specs.{Grading.IsOpenBut, Heads.{patches_of}, Nodes.{nodes_of, pending_in}}
use Rattle.fst_heads.specs.{declared.head.Head.Head, declared.pending.Pending.Pending}
use Rattle.fst_heads.proofs.{Indices.{any_default, direct_at, named_at}}
use Rattle.fst_walks.specs.{Descending.Visits, Searching.IsNextHeld}
use Rattle.fst_levels.specs.Walks.{numbers_met}
use Rattle.fst_walks.proofs.{Ascended.{climbing_more, climbing_all}, GateBelow.{other_gate, gate_other}, Visiting.{visits_same}}
use Rattle.fst_levels.proofs.MetNumbers.{index_met, long_met}
use Rattle.fst_walks.proofs.other_gates.search_other.Goals as goal

pub loop-at-smaller : goal.loop-at-smaller
loop-at-smaller c = omega (arith, c.len.ensures.few, c.loop-at-test.true, c.loop-at.invariant.visited.long)

pub loop-at-init : goal.loop-at-init
loop-at-init c = grind (arith, common_steps)

pub loop-at-preserved : goal.loop-at-preserved
loop-at-preserved c =
    let heads = c.args.sight.now.heads.now.list.items in
    let walk = c.loop-at.walk in
    let told : ℕ → Pending = pending_in (nodes_of heads) in
    let Step = IsNextHeld (patches_of heads) told in
    let met = numbers_met heads walk in
    let at = c.loop-at.at in
    let lt : at < length walk.met = omega (arith, c.loop-at-test.true, c.len.ensures.long) in
    let inside : at < length met = omega (arith, lt, long_met heads walk) in
    let n = get_or met at 0 in
    let s = c.index_at-index.result in
    let index = index_met heads walk at s c.loop-at.invariant.visited.long lt c.index_at-index.ensures.index c.index_at-index.ensures.inside in
    let d : Head = c.index-head.result.now in
    let new = numbers_met heads c.visit_row.new.walk in
    let below = c.as_slice.ensures ∙ ap (λ h. h.dependencies.items) c.index-head.ensures in
    let next : Visits (Step n) met new =
    visits_same _ (Step n) met new
    (λ q k. (direct_at heads n q s d index (subst (λ row. Contains row q) below k.0), k.1))
    (λ q k. (subst (λ row. Contains row q) (sym below) (named_at heads n q s d c.args.sight.now.heads.now.rising index k.0), k.1))
    c.visit_row.ensures.visits in
    let same : (j : ℕ) → j < length met → get_or new j 0 ≡ get_or met j 0 = λ j in_met. ap (λ q. get_or q j 0) next.kept.1 ∙ get_or_append_left met next.kept.0 0 j in_met in
    record {
      visited = c.visit_row.ensures.visited;
      climbing = climbing_more Step (numbers_met heads c.args.walk.now) at met new inside c.loop-at.invariant.climbing next;
      none = λ j up in_new u. elim (cases_eq j at) [
        | inl here ↦ false≢true (sym c.if-is_other_gate.false ∙ gate_other heads c.args.sight.now.heads.now.rising n s c.args.gate index d c.index-head.ensures _ c.is_other_gate.ensures (subst (IsOpenBut (patches_of heads) (Some c.args.gate)) (ap (λ k. get_or new k 0) here ∙ same at inside) u))
        | inr before ↦
            let low : j < at = omega (arith, up, before) in
            c.loop-at.invariant.none j low (omega (arith, low, inside)) (subst (IsOpenBut (patches_of heads) (Some c.args.gate)) (same j (omega (arith, low, inside))) u)
      ];
    }

pub returns-then-is_other_gate-clause-met : goal.returns-then-is_other_gate-clause-met
returns-then-is_other_gate-clause-met c =
    let heads = c.args.sight.now.heads.now.list.items in
    let walk = c.loop-at.walk in
    let met = numbers_met heads walk in
    let at = c.loop-at.at in
    let lt : at < length walk.met = omega (arith, c.loop-at-test.true, c.len.ensures.long) in
    let n = get_or met at 0 in
    let s = c.index_at-index.result in
    let index = index_met heads walk at s c.loop-at.invariant.visited.long lt c.index_at-index.ensures.index c.index_at-index.ensures.inside in
    let d : Head = c.index-head.result.now in
    (λ e. (n, c.loop-at.invariant.climbing.only n (Contains-get_or met at 0 (omega (arith, lt, long_met heads walk))), other_gate heads c.args.sight.now.heads.now.rising n s c.args.gate index d c.index-head.ensures _ c.is_other_gate.ensures c.if-is_other_gate.true), λ u. refl)

pub returns-clause-met : goal.returns-clause-met
returns-clause-met c =
    let heads = c.args.sight.now.heads.now.list.items in
    let met = numbers_met heads c.loop-at.walk in
    let past : length met ≤ c.loop-at.at = omega (arith, c.loop-at-test.false, c.len.ensures.long, long_met heads c.loop-at.walk) in
    let all = climbing_all (IsNextHeld (patches_of heads) (pending_in (nodes_of heads))) (numbers_met heads c.args.walk.now) c.loop-at.at met past c.loop-at.invariant.climbing in (
      λ e. cc,
      λ u.
          let k = (all u.0).1 u.1 in
          absurd (c.loop-at.invariant.none k.0 (omega (arith, k.1, past)) k.1 (subst (IsOpenBut (patches_of heads) (Some c.args.gate)) (sym (any_default met k.0 0 u.0 k.1 ∙ k.2)) u.2)),
    )
