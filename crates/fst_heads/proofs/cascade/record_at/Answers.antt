use Rattle.fst_heads.proofs.Basics.{◌≡◌, ◌<◌, ◌∙◌, ◌&&◌, ℕ, Bool, List, length, set, get_or, true, false, refl, sym, ap, subst, arith, and_right, rules, common_steps}
use Rattle.fst_heads.proofs.Patches.{Grade, Place, is_at, is_on}
use Rattle.fst_heads.proofs.Words.{Head, Standing, kind_of, Node, node_of, nodes_of, Pending, Fits, Sinks, is_pending, now, is_recorded, recorded, AllStand}
use Rattle.fst_heads.proofs.{Framed.frames_set, AtNumber.at_index, Releasing.{node_at, few_ready, some_held, stand_freed, stand_held, stand_told}}
use Rattle.fst_heads.proofs.{Indices.{any_default, index_here}, PendingAt.node_in}
use Rattle.fst_types.specs.declared.span.Span.{Span}
use Rattle.fst_heads.specs.Standings.{without_changes}
use Rattle.fst_heads.proofs.Patches.place
use Rattle.fst_heads.proofs.Words.pending
use Rattle.fst_heads.specs.declared.head.Kind.{Kind}
use Rattle.fst_heads.specs.declared.head.Kind.TheVariants as kinds
use Rattle.fst_heads.proofs.cascade.record_at.Goals as goal
use Rattle.fst_heads.proofs.cascade.record_at.Goals.{in-Change+in-Memory+then-is_pending, in-Change+in-Memory+else-is_pending, in-Change+in_default-place, in_default}

pub pending_now-new-requires : goal.pending_now-new-requires
pending_now-new-requires c =
    let h = c.index_mut-head.result.now in
    subst (λ (x : Node). Fits x.sums) (node_at c.args.heads.now.list.items c.args.index h (node_of h) (omega (arith, c.requires.index, c.args.heads.now.list.ok.0)) c.index_mut-head.ensures.value) (c.requires.stale (node_of h)).fits

-- the facts of the index at the head that stands there
index_sinks : (heads : List Head) (s : ℕ) (h : Head) → get_or (nodes_of heads) s (node_of h) ≡ node_of h → ((d : Node) → Sinks (get_or (nodes_of heads) s d).pending (now (get_or (nodes_of heads) s d))) → Sinks h.pending (now (node_of h))
index_sinks heads s h at all = subst (λ (x : Node). Sinks x.pending (now x)) at (all (node_of h))

index_stale : (heads : List Head) (s : ℕ) (h : Head) → get_or (nodes_of heads) s (node_of h) ≡ node_of h → ((d : Node) → is_recorded (get_or (nodes_of heads) s d) ≡ false) → is_recorded (node_of h) ≡ false
index_stale heads s h at all = subst (λ (x : Node). is_recorded x ≡ false) at (all (node_of h))

-- what is not in memory, or no change, is no change in memory
off_memory : (p : Place) (on : Bool) → (p ≡ place.Memory → ⊥) → (is_at p place.Memory && on) ≡ false
off_memory place.Memory on not = absurd (not refl)
off_memory p on not = refl

off_change : (b : ℕ) (k : Kind) (here : Bool) → ((grade : Grade) (block : ℕ) (span : Span) → k ≡ kinds.Change grade block span → ⊥) → (here && is_on b (kind_of k)) ≡ false
off_change b (kinds.Change grade block span) here not = absurd (not grade block span refl)
off_change b k here not = and_right here false refl

-- what the test says of the answer it says of what is pending now
is_block_now : (h : Head) (p : Pending) (b : ℕ) → p ≡ now (node_of h) → is_pending p (pending.Block b) ≡ true → is_pending (now (node_of h)) (pending.Block b) ≡ true
is_block_now h p b e yes_it = ap (λ q. is_pending q (pending.Block b)) (sym e) ∙ yes_it

not_block_now : (h : Head) (p : Pending) (b : ℕ) → p ≡ now (node_of h) → is_pending p (pending.Block b) ≡ false → is_pending (now (node_of h)) (pending.Block b) ≡ false
not_block_now h p b e no_it = ap (λ q. is_pending q (pending.Block b)) (sym e) ∙ no_it

pub release-requires : goal.release-requires
release-requires c =
    let heads = c.args.heads.now.list.items in
    let s = c.args.index in
    let h = c.index_mut-head.result.now in
    let b = c.in-Change.block in
    let lt : s < length heads = omega (arith, c.requires.index, c.args.heads.now.list.ok.0) in
    let e = c.index_mut-head.ensures.value in
    let at = node_at heads s h (node_of h) lt e in
    let standings = c.args.standings.now in
    let inside = c.requires.inside (node_of h) b c.in-Change.field-2.at c.in-Change.field-2.len c.in-Change.field-0 (node_in heads s h lt e) (ap kind_of c.in-Change.is) in
    let few : (d : Standing) → (get_or standings b d).ready < length heads = λ d.
    few_ready heads s h lt e (length standings) standings c.requires.standing
    b c.in-Change.field-2.at c.in-Change.field-2.len c.in-Change.field-0 (ap kind_of c.in-Change.is) c.in-Memory.is
    (index_sinks heads s h at (λ x. (c.requires.stale x).sinks)) (index_stale heads s h at (λ x. (c.requires.stale x).stale)) inside (get_or standings b d) (any_default standings b d (get_or standings b d) inside)
    (is_block_now h c.pending_now-new.result b c.pending_now-new.ensures (sym c.is_pending.ensures ∙ c.if-is_pending.true)) in
    record {
      inside = rw c.from.ensures inside;
      ready = rw c.from.ensures (λ d. omega (arith, few d, c.args.heads.now.list.ok.0, c.args.heads.now.list.ok.1, c.args.heads.now.list.small));
      held = rw c.from.ensures (λ d hard. some_held heads s h lt e (length standings) standings c.requires.standing
          b c.in-Change.field-2.at c.in-Change.field-2.len c.in-Change.field-0 (ap kind_of c.in-Change.is) c.in-Memory.is
          (index_sinks heads s h at (λ x. (c.requires.stale x).sinks)) (index_stale heads s h at (λ x. (c.requires.stale x).stale)) inside (get_or standings b d) (any_default standings b d (get_or standings b d) inside) hard);
    }

pub returns-clause-nodes : goal.returns-clause-nodes
returns-clause-nodes c d = search (rules, node_at, index_here, at_index)

pub returns-clause-standing : goal.returns-clause-standing
returns-clause-standing c =
    let heads = c.args.heads.now.list.items in
    let s = c.args.index in
    let h = c.index_mut-head.result.now in
    let lt : s < length heads = omega (arith, c.requires.index, c.args.heads.now.list.ok.0) in
    let e = c.index_mut-head.ensures.value in
    let at = node_at heads s h (node_of h) lt e in
    let after : Head = record h { pending = c.pending_now-new.result } in
    let same : node_of after ≡ recorded (node_of h) = ap (λ p. node_of (record h { pending = p })) c.pending_now-new.ensures in
    elim c.match-head.branch [
      | in-Change+in-Memory+else-is_pending w ↦
          subst (λ v. AllStand (nodes_of (set heads s after)) (length c.args.standings.now) v) (sym w.standings-is)
          (stand_held heads s h lt e (length c.args.standings.now) c.args.standings.now c.requires.standing
          w.in-Change.block w.in-Change.field-2.at w.in-Change.field-2.len w.in-Change.field-0 (ap kind_of w.in-Change.is) w.in-Memory.is
          (index_sinks heads s h at (λ d. (c.requires.stale d).sinks)) (index_stale heads s h at (λ d. (c.requires.stale d).stale))
          after same (not_block_now h c.pending_now-new.result w.in-Change.block c.pending_now-new.ensures (sym w.is_pending.ensures ∙ w.if-is_pending.false)))
      | in-Change+in-Memory+then-is_pending w ↦
          let b = w.in-Change.block in
          let inside = c.requires.inside (node_of h) b w.in-Change.field-2.at w.in-Change.field-2.len w.in-Change.field-0 (node_in heads s h lt e) (ap kind_of w.in-Change.is) in
          let st = get_or c.args.standings.now b without_changes in
          rw (w.standings-is, w.release.ensures without_changes, w.from.ensures)
          (stand_freed heads s h lt e (length c.args.standings.now) c.args.standings.now c.requires.standing
          b w.in-Change.field-2.at w.in-Change.field-2.len w.in-Change.field-0 (ap kind_of w.in-Change.is) w.in-Memory.is
          (index_sinks heads s h at (λ d. (c.requires.stale d).sinks)) (index_stale heads s h at (λ d. (c.requires.stale d).stale)) inside st (any_default c.args.standings.now b without_changes st inside)
          (is_block_now h c.pending_now-new.result b c.pending_now-new.ensures (sym w.is_pending.ensures ∙ w.if-is_pending.true)) after same _ refl)
      | in-Change+in_default-place w ↦
          subst (λ v. AllStand (nodes_of (set heads s after)) (length c.args.standings.now) v) (sym w.standings-is)
          (stand_told heads s h lt e (length c.args.standings.now) c.args.standings.now c.requires.standing after same (λ b. off_memory h.place (is_on b (kind_of h.kind)) w.in_default-place.not-Memory))
      | in_default w ↦
          subst (λ v. AllStand (nodes_of (set heads s after)) (length c.args.standings.now) v) (sym w.standings-is)
          (stand_told heads s h lt e (length c.args.standings.now) c.args.standings.now c.requires.standing after same (λ b. off_change b h.kind (is_at h.place place.Memory) w.in_default.not-Change))
    ]

pub returns-clause-frames : goal.returns-clause-frames
returns-clause-frames c = grind (arith, frames_set)

pub returns-clause-len : goal.returns-clause-len
returns-clause-len c = grind (arith, common_steps)

pub returns-clause-new : goal.returns-clause-new
returns-clause-new c = grind (arith, common_steps)

pub returns-clause-old : goal.returns-clause-old
returns-clause-old c = grind (arith, common_steps)

pub returns-clause-places : goal.returns-clause-places
returns-clause-places c = grind (arith, common_steps)
