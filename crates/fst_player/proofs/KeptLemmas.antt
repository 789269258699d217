-- What calls of the cache leave of what the player keeps.
use Rattle.std.proofs.Common.{◌≡◌, ◌≢◌, ℕ, ◌+◌, ◌<◌, Bool, true, false, List, [], ◌∷◌, ◌++◌, length, map, get_or, set, Option, Some, None, refl, sym, ap, subst, ◌∙◌, inl, inr, arith, length-set}
use Rattle.std.specs.Prelude.{All, AllPairs, if◌then◌else◌}
use Rattle.std.specs.List.{remove}
use Rattle.std.proofs.lemmas.Bool.{cases_lt}
use Rattle.std.proofs.lemmas.List.Elements.{All-append, All-cons, All-nil}
use Rattle.std.proofs.lemmas.List.{get_or_default}
use Rattle.std.proofs.lemmas.List.Edits.{length-remove, get_or-remove_below, get_or-remove_above}
use Rattle.std.proofs.lemmas.List.Quantifiers.{all_pairs_remove, all_pairs_push}
use Rattle.fst_types.specs.declared.shape.Shape.{Shape}
use Rattle.fst_types.specs.declared.grade.Grade.{Grade}
use Rattle.fst_types.specs.declared.fault.Fault.{Fault}
use Rattle.fst_types.specs.Limits.{max_tries}
use Rattle.fst_types.specs.State.{State, BlockState, Flight, block_of, flight_of}
use Rattle.fst_types.specs.Flights.{IsOut}
use Rattle.fst_types.specs.Run.{ChangeMade, made_after}
use Rattle.fst_types.specs.Events.{Event, MakeChange, MakeEmpty, MakeGate, Depend, Seal, Issue, Settle, Retry, Evict, Forget, Reply, MadeChange, Made, Accepted as Agreed, Job, Forgot, Refused}
use Rattle.fst_types.specs.Step.{Step, accepted, refused, change, empty, gate, depend, seal, issue, land, stall, lose, retry, evict, forget, group}
use Rattle.fst_types.proofs.Moves.{flight_out, same_some, flight_put, flight_in}
use Rattle.fst_device.specs.JobView.{JobView}
use Rattle.fst_device.specs.MemoryView.{MemoryView}
use Rattle.fst_player.specs.Script.{opened}
use Rattle.fst_player.specs.Kept.{Came, IsKept, committed_of_each}
use Rattle.fst_player.proofs.CommittedLemmas.{flight_committed, image_committed}
use Rattle.fst_player.proofs.ScriptRuns.{came_more}

-- all but the flight of block b, and what the patches are, is as it was
record Leaves (old new : State) (b : ℕ) : Type 0 where
  blocks : length new.blocks ≡ length old.blocks
  made : new.made ≡ old.made
  others : (c : ℕ) → c ≢ b → flight_of new c ≡ flight_of old c

other_flight : (old new : State) (b : ℕ) (v : BlockState) → new.blocks ≡ set old.blocks b v → (c : ℕ) → c ≢ b → flight_of new c ≡ flight_of old c
other_flight old new b v bs c ne =
    ap (λ (x : List BlockState). flight_in x c) bs ∙ elim (flight_put old b c v) [ inl here ↦ absurd (ne here.0) | inr there ↦ there.0 ]

same_flight : (old new : State) (b : ℕ) (v : BlockState) → new.blocks ≡ set old.blocks b v → b < length old.blocks → flight_of new b ≡ v.flight
same_flight old new b v bs inside =
    ap (λ (x : List BlockState). flight_in x b) bs ∙ elim (flight_put old b b v) [ inl here ↦ here.1 | inr there ↦ let past = there.1 refl in absurd (omega (arith, inside, past)) ]

leaves_at : (old new : State) (b : ℕ) (v : BlockState) → new.made ≡ old.made → new.blocks ≡ set old.blocks b v → Leaves old new b
leaves_at old new b v made bs = record {
  blocks = ap (λ (x : List BlockState). length x) bs ∙ length-set old.blocks b v;
  made = made;
  others = other_flight old new b v bs;
}

-- what is out stays so where the block's flight does
pub still_out : (old new : State) (t b : ℕ) (image : List ℕ) → flight_of new b ≡ flight_of old b → IsOut old t b image → IsOut new t b image
still_out old new t b image same out = record { failed = out.failed; few = out.few; flight = same ∙ out.flight }

-- no job is of a block whose write is not out
none_of : (s : State) (jobs : List (JobView MemoryView)) (b : ℕ) → All (λ j. IsOut s j.ticket j.block j.image) jobs
    → ((t : ℕ) (image : List ℕ) → IsOut s t b image → ⊥) → All (λ j. j.block ≢ b) jobs
none_of s jobs b out never i d lt e = never _ _ (subst (λ (c : ℕ). IsOut s (get_or jobs i d).ticket c (get_or jobs i d).image) e (out i d lt))

-- what is kept stays so, where no job is of the block
kept_apart : (shape : Shape) (share : ℕ) (old new : State) (jobs : List (JobView MemoryView)) (made : List ChangeMade) (kept after : List (List ℕ)) (b : ℕ)
    → IsKept shape share old jobs made kept → Leaves old new b → All (λ j. j.block ≢ b) jobs → Came (opened shape).cache new made → after ≡ committed_of_each new → IsKept shape share new jobs made after
kept_apart shape share old new jobs made kept after b K L apart came committed = record {
  counted = K.counted ∙ sym L.made;
  blocks = K.blocks ∙ sym L.blocks;
  out = λ i d lt. still_out old new _ _ _ (L.others (get_or jobs i d).block (apart i d lt)) (K.out i d lt);
  apart = K.apart;
  came = came;
  committed = committed;
}

-- one job more, of a block of which none was kept
kept_more : (shape : Shape) (share : ℕ) (s : State) (jobs : List (JobView MemoryView)) (made : List ChangeMade) (kept : List (List ℕ)) (job : JobView MemoryView)
    → IsKept shape share s jobs made kept → All (λ j. j.block ≢ job.block) jobs → IsOut s job.ticket job.block job.image → IsKept shape share s (jobs ++ job ∷ []) made kept
kept_more shape share s jobs made kept job K apart out = record {
  counted = K.counted;
  blocks = K.blocks;
  out = All-append (λ j. IsOut s j.ticket j.block j.image) jobs (job ∷ []) K.out (All-cons (λ j. IsOut s j.ticket j.block j.image) job [] out (All-nil _));
  apart = all_pairs_push (λ i j. i.block ≢ j.block) jobs job K.apart (λ k d lt. apart k d lt);
  came = K.came;
  committed = K.committed;
}

-- a write that is out at the block, where it has no flight or a stalled one
no_out_at_none : (o : Option Flight) (f : Flight) → o ≡ None → o ≡ Some f → ⊥
no_out_at_none o f a b = cc

no_out_at_stalled : (o : Option Flight) (f g : Flight) → f.stalled ≡ true → g.stalled ≡ false → o ≡ Some f → o ≡ Some g → ⊥
no_out_at_stalled o f g yes_stalled out a b = differ (sym yes_stalled ∙ (ap (λ f. f.stalled) (same_some o f g a b) ∙ out))
  where
    differ : true ≡ false → ⊥
    differ e = cc

-- a job that was given just now is out, and of its block none was kept
record Given (old new : State) (b : ℕ) (job : JobView MemoryView) : Type 0 where
  at_block : job.block ≡ b
  left : Leaves old new b
  free : (t : ℕ) (image : List ℕ) → IsOut old t b image → ⊥
  out : IsOut new job.ticket job.block job.image

issue_given : (old new : State) (b t c : ℕ) (image : List ℕ) → Step old (Issue b) (Job t c image) new
    → (c ≡ b) × Leaves old new b × ((u : ℕ) (x : List ℕ) → IsOut old u b x → ⊥) × IsOut new t c image × (committed_of_each new ≡ committed_of_each old)
issue_given old new b t c image (accepted n (group m)) = elim m [ ]
issue_given old new b t c image (accepted n (issue m)) =
    let f : Flight = flight_out t image 0 in
    let v : BlockState = record (block_of old b) { flight = Some f } in
    let bs = ap (λ s. s.blocks) m.state in (
      refl,
      leaves_at old new b v (ap (λ s. s.made) m.state) bs,
      λ u x out. no_out_at_none (flight_of old b) (flight_out u x out.failed) m.home out.flight,
      record { failed = 0; few = omega arith; flight = same_flight old new b v bs (elim (cases_lt b (length old.blocks)) [ inl lt ↦ lt | inr past ↦ absurd (n.0 past) ]) },
      flight_committed old new b (Some f) bs,
    )

retry_given : (old new : State) (b t c : ℕ) (image : List ℕ) → Step old (Retry b) (Job t c image) new
    → (c ≡ b) × Leaves old new b × ((u : ℕ) (x : List ℕ) → IsOut old u b x → ⊥) × IsOut new t c image × (committed_of_each new ≡ committed_of_each old)
retry_given old new b t c image (accepted n (group m)) = elim m [ ]
retry_given old new b t c image (accepted n (retry m)) =
    let last : Flight = record { ticket = m.last; image = image; stalled = true; failed = m.failed } in
    let f : Flight = flight_out t image m.failed in
    let v : BlockState = record (block_of old b) { flight = Some f } in
    let bs = ap (λ s. s.blocks) m.state in (
      refl,
      leaves_at old new b v (ap (λ s. s.made) m.state) bs,
      λ u x out. no_out_at_stalled (flight_of old b) last (flight_out u x out.failed) refl refl m.same_image out.flight,
      record {
        failed = m.failed;
        few = elim (cases_lt m.failed max_tries) [ inl lt ↦ lt | inr many ↦ absurd (n.1.0 (record { flight = last; there = m.same_image; lost = many })) ];
        flight = same_flight old new b v bs (elim (cases_lt b (length old.blocks)) [ inl lt ↦ lt | inr past ↦ absurd (n.0 past) ]);
      },
      flight_committed old new b (Some f) bs,
    )

kept_given : (shape : Shape) (share : ℕ) (old new : State) (jobs : List (JobView MemoryView)) (made : List ChangeMade) (kept : List (List ℕ)) (b : ℕ) (job : JobView MemoryView)
    → IsKept shape share old jobs made kept → Came (opened shape).cache new made
    → (job.block ≡ b) × Leaves old new b × ((u : ℕ) (x : List ℕ) → IsOut old u b x → ⊥) × IsOut new job.ticket job.block job.image × (committed_of_each new ≡ committed_of_each old)
    → IsKept shape share new (jobs ++ job ∷ []) made kept
kept_given shape share old new jobs made kept b job K came h =
    let apart = none_of old jobs b K.out h.2 in
    kept_more shape share new jobs made kept job (kept_apart shape share old new jobs made kept kept b K h.1 apart came (K.committed ∙ sym h.4)) (λ i d lt e. apart i d lt (e ∙ h.0)) h.3

pub issue_out : (old new : State) (b : ℕ) (job : JobView MemoryView) → Step old (Issue b) (Job job.ticket job.block job.image) new → IsOut new job.ticket job.block job.image
issue_out old new b job step = (issue_given old new b job.ticket job.block job.image step).3

pub issue_kept : (shape : Shape) (share : ℕ) (old new : State) (jobs : List (JobView MemoryView)) (made : List ChangeMade) (kept : List (List ℕ)) (b : ℕ) (job : JobView MemoryView)
    → IsKept shape share old jobs made kept → Step old (Issue b) (Job job.ticket job.block job.image) new → IsKept shape share new (jobs ++ job ∷ []) made kept
issue_kept shape share old new jobs made kept b job K step =
    kept_given shape share old new jobs made kept b job K (came_more (opened shape).cache old new made _ _ K.came step) (issue_given old new b job.ticket job.block job.image step)

pub retry_out : (old new : State) (b : ℕ) (job : JobView MemoryView) → Step old (Retry b) (Job job.ticket job.block job.image) new → IsOut new job.ticket job.block job.image
retry_out old new b job step = (retry_given old new b job.ticket job.block job.image step).3

pub retry_kept : (shape : Shape) (share : ℕ) (old new : State) (jobs : List (JobView MemoryView)) (made : List ChangeMade) (kept : List (List ℕ)) (b : ℕ) (job : JobView MemoryView)
    → IsKept shape share old jobs made kept → Step old (Retry b) (Job job.ticket job.block job.image) new → IsKept shape share new (jobs ++ job ∷ []) made kept
retry_kept shape share old new jobs made kept b job K step =
    kept_given shape share old new jobs made kept b job K (came_more (opened shape).cache old new made _ _ K.came step) (retry_given old new b job.ticket job.block job.image step)

-- a settled write leaves the other blocks
settle_leaves : (old new : State) (t b : ℕ) (image : List ℕ) (written : Bool) (r : Reply) → Step old (Settle t b image written) r new → IsOut old t b image → Leaves old new b
settle_leaves old new t b image written r (accepted n (group m)) out = elim m [ ]
settle_leaves old new t b image written r (accepted n (land m)) out =
    leaves_at old new b (record { committed = image; flight = None }) (ap (λ s. s.made) m.state) (ap (λ s. s.blocks) m.state)
settle_leaves old new t b image written r (accepted n (stall m)) out =
    leaves_at old new b (record (block_of old b) { flight = Some (record { ticket = t; image = image; stalled = true; failed = m.out.failed + 1 }) }) (ap (λ s. s.made) m.state) (ap (λ s. s.blocks) m.state)
settle_leaves old new t b image written r (accepted n (lose m)) out =
    leaves_at old new b (record (block_of old b) { flight = Some (flight_out t image max_tries) }) (ap (λ s. s.made) m.state) (ap (λ s. s.blocks) m.state)
settle_leaves old new t b image written r (refused (inl first)) out = elim first [ inl holds ↦ absurd (holds.0 out) | inr none ↦ absurd none.1 ]
settle_leaves old new t b image written r (refused (inr free)) out = absurd free.1

-- an image that was written is committed, and else what was committed stays so
settle_committed : (old new : State) (t b : ℕ) (image : List ℕ) (written : Bool) (r : Reply) → Step old (Settle t b image written) r new → IsOut old t b image
    → committed_of_each new ≡ (if written then set (committed_of_each old) b image else committed_of_each old)
settle_committed old new t b image written r (accepted n (group m)) out = elim m [ ]
settle_committed old new t b image written r (accepted n (land m)) out = image_committed old new b image (ap (λ s. s.blocks) m.state)
settle_committed old new t b image written r (accepted n (stall m)) out =
    flight_committed old new b (Some (record { ticket = t; image = image; stalled = true; failed = m.out.failed + 1 })) (ap (λ s. s.blocks) m.state)
settle_committed old new t b image written r (accepted n (lose m)) out = flight_committed old new b (Some (flight_out t image max_tries)) (ap (λ s. s.blocks) m.state)
settle_committed old new t b image written r (refused (inl first)) out = elim first [ inl holds ↦ absurd (holds.0 out) | inr none ↦ absurd none.1 ]
settle_committed old new t b image written r (refused (inr free)) out = absurd free.1

-- a write that is out is not refused
pub settle_refused : (old new : State) (t b : ℕ) (image : List ℕ) (written : Bool) (f : Fault) → Step old (Settle t b image written) (Refused f) new → IsOut old t b image → ⊥
settle_refused old new t b image written f (accepted n (group m)) out = elim m [ ]
settle_refused old new t b image written f (refused (inl first)) out = elim first [ inl holds ↦ absurd (holds.0 out) | inr none ↦ absurd none.1 ]
settle_refused old new t b image written f (refused (inr free)) out = absurd free.1

All-remove : {X : Type 0} (P : X → Type 0) (xs : List X) (i : ℕ) → i < length xs → All P xs → All P (remove xs i)
All-remove P xs i lt all k d inside =
    let long = length-remove xs i lt in
    elim (cases_lt k i) [
      | inl below ↦ subst P (sym (get_or-remove_below xs i d k below lt)) (all k d (omega (arith, below, lt)))
      | inr above ↦ subst P (sym (get_or-remove_above xs i d k above lt)) (all (k + 1) d (omega (arith, long, inside)))
    ]

-- the jobs but one
kept_less : (shape : Shape) (share : ℕ) (s : State) (jobs : List (JobView MemoryView)) (made : List ChangeMade) (kept : List (List ℕ)) (i : ℕ) → i < length jobs → IsKept shape share s jobs made kept → IsKept shape share s (remove jobs i) made kept
kept_less shape share s jobs made kept i lt K = record {
  counted = K.counted;
  blocks = K.blocks;
  out = All-remove (λ j. IsOut s j.ticket j.block j.image) jobs i lt K.out;
  apart = all_pairs_remove (λ i j. i.block ≢ j.block) jobs i lt K.apart;
  came = K.came;
  committed = K.committed;
}

-- the others are of other blocks
others_apart : (jobs : List (JobView MemoryView)) (i : ℕ) (job : JobView MemoryView) → i < length jobs → job ≡ get_or jobs i job → AllPairs (λ i j. i.block ≢ j.block) jobs → All (λ j. j.block ≢ job.block) (remove jobs i)
others_apart jobs i job lt is apart k d inside =
    let long = length-remove jobs i lt in
    let at : job.block ≡ (get_or jobs i d).block = ap (λ j. j.block) (is ∙ get_or_default jobs i job d lt) in
    let P : JobView MemoryView → Type 0 = λ j. j.block ≢ job.block in
    elim (cases_lt k i) [
      | inl below ↦ subst P (sym (get_or-remove_below jobs i d k below lt)) (λ same. apart k i d below lt (same ∙ at))
      | inr above ↦ subst P (sym (get_or-remove_above jobs i d k above lt)) (λ same. apart i (k + 1) d (omega (arith, above)) (omega (arith, long, inside)) (sym (same ∙ at)))
    ]

-- the job at i is out
pub kept_out : (shape : Shape) (share : ℕ) (s : State) (jobs : List (JobView MemoryView)) (made : List ChangeMade) (kept : List (List ℕ)) (i : ℕ) (job : JobView MemoryView)
    → IsKept shape share s jobs made kept → i < length jobs → job ≡ get_or jobs i job → IsOut s job.ticket job.block job.image
kept_out shape share s jobs made kept i job K lt is = let P : JobView MemoryView → Type 0 = λ j. IsOut s j.ticket j.block j.image in subst P (sym is) (K.out i job lt)

-- the settled job is gone
pub settle_kept : (shape : Shape) (share : ℕ) (old new : State) (jobs : List (JobView MemoryView)) (made : List ChangeMade) (kept after : List (List ℕ)) (i : ℕ) (job : JobView MemoryView) (written : Bool) (r : Reply)
    → IsKept shape share old jobs made kept → i < length jobs → job ≡ get_or jobs i job → Step old (Settle job.ticket job.block job.image written) r new
    → after ≡ (if written then set kept job.block job.image else kept) → IsKept shape share new (remove jobs i) made after
settle_kept shape share old new jobs made kept after i job written r K lt is step taken =
    let out = kept_out shape share old jobs made kept i job K lt is in
    kept_apart shape share old new (remove jobs i) made kept after job.block (kept_less shape share old jobs made kept i lt K)
    (settle_leaves old new job.ticket job.block job.image written r step out) (others_apart jobs i job lt is K.apart)
    (came_more (opened shape).cache old new made (Settle job.ticket job.block job.image written) r K.came step)
    (taken ∙ ap (λ (l : List (List ℕ)). if written then set l job.block job.image else l) K.committed ∙ sym (settle_committed old new job.ticket job.block job.image written r step out))

-- a refusal changes nothing
pub refused_same : (old new : State) (e : Event) (f : Fault) → Step old e (Refused f) new → new ≡ old
refused_same old new e f (accepted n (group m)) = elim m [ ]
refused_same old new e f (refused x) = refl

-- what is kept stays so where the blocks do
pub kept_blocks : (shape : Shape) (share count : ℕ) (old new : State) (jobs : List (JobView MemoryView)) (made after : List ChangeMade) (kept : List (List ℕ))
    → IsKept shape share old jobs made kept → Came (opened shape).cache new after → count ≡ new.made → new.blocks ≡ old.blocks → IsKept shape count new jobs after kept
kept_blocks shape share count old new jobs made after kept K came counted blocks = record {
  counted = counted;
  blocks = K.blocks ∙ sym (ap (λ (x : List BlockState). length x) blocks);
  out = λ i j lt. still_out old new _ _ _ (ap (λ (x : List BlockState). flight_in x (get_or jobs i j).block) blocks) (K.out i j lt);
  apart = K.apart;
  came = came;
  committed = K.committed ∙ sym (ap (map (λ (x : BlockState). x.committed)) blocks);
}

-- one change more
pub change_kept : (shape : Shape) (share : ℕ) (old new : State) (jobs : List (JobView MemoryView)) (made : List ChangeMade) (kept : List (List ℕ)) (b at : ℕ) (bytes after : List ℕ) (faulted : Bool) (number : ℕ) (grade : Grade)
    → IsKept shape share old jobs made kept → Step old (MakeChange share b at bytes after faulted) (MadeChange number grade) new
    → IsKept shape (share + 1) new jobs (made_after made (MakeChange share b at bytes after faulted) (MadeChange number grade)) kept
change_kept shape share old new jobs made kept b at bytes after faulted number grade K (accepted n (group m)) = elim m [ ]
change_kept shape share old new jobs made kept b at bytes after faulted number grade K (accepted n (change m)) =
    kept_blocks shape share (share + 1) old new jobs made _ kept K (came_more (opened shape).cache old new made _ _ K.came (accepted n (change {faulted = faulted} m)))
    (ap (λ x. x + 1) K.counted ∙ sym (ap (λ s. s.made) m.state)) (ap (λ s. s.blocks) m.state)

-- one empty patch more, or one gate
pub empty_kept : (shape : Shape) (share : ℕ) (old new : State) (jobs : List (JobView MemoryView)) (made : List ChangeMade) (kept : List (List ℕ)) (after : List ℕ) (number : ℕ)
    → IsKept shape share old jobs made kept → Step old (MakeEmpty share after) (Made number) new → IsKept shape (share + 1) new jobs made kept
empty_kept shape share old new jobs made kept after number K (accepted n (group m)) = elim m [ ]
empty_kept shape share old new jobs made kept after number K (accepted n (empty m)) =
    kept_blocks shape share (share + 1) old new jobs made made kept K (came_more (opened shape).cache old new made _ _ K.came (accepted n (empty m))) (ap (λ x. x + 1) K.counted ∙ sym (ap (λ s. s.made) m.state)) (ap (λ s. s.blocks) m.state)

pub gate_kept : (shape : Shape) (share : ℕ) (old new : State) (jobs : List (JobView MemoryView)) (made : List ChangeMade) (kept : List (List ℕ)) (number : ℕ)
    → IsKept shape share old jobs made kept → Step old (MakeGate share) (Made number) new → IsKept shape (share + 1) new jobs made kept
gate_kept shape share old new jobs made kept number K (accepted n (group m)) = elim m [ ]
gate_kept shape share old new jobs made kept number K (accepted n (gate m)) =
    kept_blocks shape share (share + 1) old new jobs made made kept K (came_more (opened shape).cache old new made _ _ K.came (accepted n (gate m))) (ap (λ x. x + 1) K.counted ∙ sym (ap (λ s. s.made) m.state)) (ap (λ s. s.blocks) m.state)

-- a call that makes nothing and leaves the blocks
pub depend_kept : (shape : Shape) (share : ℕ) (old new : State) (jobs : List (JobView MemoryView)) (made : List ChangeMade) (kept : List (List ℕ)) (g : ℕ) (on : List ℕ)
    → IsKept shape share old jobs made kept → Step old (Depend g on) Agreed new → IsKept shape share new jobs made kept
depend_kept shape share old new jobs made kept g on K (accepted n (group m)) = elim m [ ]
depend_kept shape share old new jobs made kept g on K (accepted n (depend m)) =
    kept_blocks shape share share old new jobs made made kept K (came_more (opened shape).cache old new made _ _ K.came (accepted n (depend m))) (K.counted ∙ sym (ap (λ s. s.made) m.state)) (ap (λ s. s.blocks) m.state)

pub seal_kept : (shape : Shape) (share : ℕ) (old new : State) (jobs : List (JobView MemoryView)) (made : List ChangeMade) (kept : List (List ℕ)) (g : ℕ)
    → IsKept shape share old jobs made kept → Step old (Seal g) Agreed new → IsKept shape share new jobs made kept
seal_kept shape share old new jobs made kept g K (accepted n (group m)) = elim m [ ]
seal_kept shape share old new jobs made kept g K (accepted n (seal m)) =
    kept_blocks shape share share old new jobs made made kept K (came_more (opened shape).cache old new made _ _ K.came (accepted n (seal m))) (K.counted ∙ sym (ap (λ s. s.made) m.state)) (ap (λ s. s.blocks) m.state)

pub evict_kept : (shape : Shape) (share : ℕ) (old new : State) (jobs : List (JobView MemoryView)) (made : List ChangeMade) (kept : List (List ℕ)) (b : ℕ)
    → IsKept shape share old jobs made kept → Step old (Evict b) Agreed new → IsKept shape share new jobs made kept
evict_kept shape share old new jobs made kept b K (accepted n (group m)) = elim m [ ]
evict_kept shape share old new jobs made kept b K (accepted n evict) = K

pub forget_kept : (shape : Shape) (share : ℕ) (old new : State) (jobs : List (JobView MemoryView)) (made : List ChangeMade) (kept : List (List ℕ)) (dropped : ℕ)
    → IsKept shape share old jobs made kept → Step old Forget (Forgot dropped) new → IsKept shape share new jobs made kept
forget_kept shape share old new jobs made kept dropped K (accepted n (group m)) = elim m [ ]
forget_kept shape share old new jobs made kept dropped K (accepted n (forget m)) =
    kept_blocks shape share share old new jobs made made kept K (came_more (opened shape).cache old new made _ _ K.came (accepted n (forget m))) (K.counted ∙ sym (ap (λ s. s.made) m.state)) (ap (λ s. s.blocks) m.state)
