use Rattle.std.proofs.Common.{◌≡◌, ◌∙◌, ℕ, ap, refl, sym}
use Rattle.std.proofs.lemmas.Bool.{false≢true}
use Rattle.fst_heads.specs.{Nodes.{nodes_of, pending_in}, declared.pending.Pending.Pending}
use Rattle.fst_heads.proofs.PendingAt.{pending_index, pending_none}
use Rattle.fst_levels.specs.Walks.{numbers_met}
use Rattle.fst_levels.proofs.Low.{held_is, is_held}
use Rattle.fst_walks.proofs.GatesSeen.{gates_seen}
use Rattle.fst_walks.proofs.Visiting.{visits_none, visits_meet, visited_meet}
use Rattle.fst_walks.proofs.cycle.visit_held.Goals.{Then-is_pending}
use Rattle.fst_heads.specs.declared.pending.Pending.TheVariants as pending
use Rattle.fst_walks.proofs.cycle.visit_held.Goals as goal

-- an open gate is waited for
held : (c : Then-is_pending) → pending_in (nodes_of c.args.sight.now.heads.now.list.items) c.args.number ≡ pending.Held
held c =
    pending_index c.args.sight.now.heads.now.list.items c.args.number c.in-Some.index c.index.result.now c.args.sight.now.heads.now.rising c.in-Some.ensures.found
    ∙ (sym (ap (λ h. h.pending) c.index.ensures) ∙ is_held _ (sym c.is_pending.ensures ∙ c.if-is_pending.true))

pub returns-then-is_pending-clause-visited : goal.returns-then-is_pending-clause-visited
returns-then-is_pending-clause-visited c =
    let told = held (goal.at.returns-then-is_pending-clause-visited c).Then-is_pending in
    visited_meet c.args.sight.now.heads.now.list.items c.args.number c.in-Some.index c.in-Some.ensures.found c.args.walk.now c.meet.new.self c.meet.ensures ((gates_seen c.args.sight.now c.requires.sees).live c.args.number told) c.requires.visited

pub returns-then-is_pending-clause-visits : goal.returns-then-is_pending-clause-visits
returns-then-is_pending-clause-visits c =
    let heads = c.args.sight.now.heads.now.list.items in
    let n = c.args.number in
    let told = held (goal.at.returns-then-is_pending-clause-visits c).Then-is_pending in
    visits_meet heads n c.in-Some.index c.in-Some.ensures.found c.args.walk.now c.meet.new.self c.meet.ensures (λ m. (m ≡ n) × (pending_in (nodes_of heads) m ≡ pending.Held)) (refl, told) (λ m k. k.0)

pub returns-else-is_pending-clause-visits : goal.returns-else-is_pending-clause-visits
returns-else-is_pending-clause-visits c =
    let heads = c.args.sight.now.heads.now.list.items in
    let n = c.args.number in
    let told : ℕ → Pending = pending_in (nodes_of heads) in
    visits_none (λ m. (m ≡ n) × (told m ≡ pending.Held)) (numbers_met heads c.args.walk.now) (λ m k.
    let own = ap (λ h. h.pending) c.index.ensures ∙ (sym (pending_index heads n c.in-Some.index c.index.result.now c.args.sight.now.heads.now.rising c.in-Some.ensures.found) ∙ (sym (ap told k.0) ∙ k.1)) in
    absurd (false≢true (sym c.if-is_pending.false ∙ (c.is_pending.ensures ∙ held_is _ own))))

pub returns-in_default-clause-visits : goal.returns-in_default-clause-visits
returns-in_default-clause-visits c =
    let heads = c.args.sight.now.heads.now.list.items in
    let n = c.args.number in
    let told : ℕ → Pending = pending_in (nodes_of heads) in
    visits_none (λ m. (m ≡ n) × (told m ≡ pending.Held)) (numbers_met heads c.args.walk.now) (λ m k.
    let none = sym (pending_none heads n c.in_default.ensures.none) ∙ (sym (ap told k.0) ∙ k.1) in absurd (cc))
