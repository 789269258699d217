use Rattle.std.proofs.Common.{◌≡◌, ◌+◌, ◌*◌, ℕ, sum_by, refl, sym, ◌∙◌, true, false, arith}
use Rattle.std.specs.Prelude.{Option, None, Some, is_some}
use Rattle.std.proofs.lemmas.List.Elements.{All-pop}
use Rattle.std.proofs.lemmas.List.Sums.{sum_by_push}
use Rattle.fst_crew.proofs.crews.threads.join_files.Goals as goal
use Rattle.fst_crew.proofs.crews.threads.join_files.Goals.{then-is_some, else-is_some}

none_of : {X : Type 0} (o : Option X) → false ≡ is_some o → o ≡ None
none_of None e = refl
none_of (Some x) e = cc

clash : {X : Type 0} (o : Option X) → true ≡ is_some o → o ≡ None → ⊥
clash None e none = cc
clash (Some x) e none = cc

-- a thread's share and the rounds that it made
one_more : (a n m r t share : ℕ) → n + 1 ≡ m → share ≡ r → a + m * r ≡ t → (a + share) + n * r ≡ t
one_more a n m r t share e s h = rw (s, ← h, ← e) (omega arith)

pub loop-handle-preserved : goal.loop-handle-preserved
loop-handle-preserved g c =
    let popped = rw c.in-Some.is at c.pop.ensures.items in
    let p = All-pop (λ h. h.promise.0 ≡ c.args.rounds) c.loop-handle.files.items c.pop.new.self.items (Some c.in-Some.handle) popped c.loop-handle.invariant.0 in
    let less = rw c.in-Some.is at c.pop.ensures.cases in
    let added : sum_by (λ (s : ℕ). s) c.push_reserved.new.self.items ≡ sum_by (λ (s : ℕ). s) c.loop-handle.shares.items + c.join-share.result.share =
    rw c.push_reserved.ensures.items (sum_by_push (λ (s : ℕ). s) c.loop-handle.shares.items c.join-share.result.share) in (
      p.0,
      omega (arith, less, c.push_reserved.ensures.len, c.push_reserved.ensures.capacity, c.loop-handle.invariant.1),
      (λ none.
          elim c.if-is_some.branch [
            | then-is_some w ↦ absurd (clash c.join-share.result.fault w.if-is_some.ensures (sym w.lowest-is ∙ none))
            | else-is_some w ↦
                let fine = none_of c.join-share.result.fault w.if-is_some.ensures in
                rw added (one_more _ _ _ c.args.rounds _ _ less (c.join-share.ensures fine ∙ p.1) (c.loop-handle.invariant.2 (sym w.lowest-is ∙ none)))
          ]),
    )
