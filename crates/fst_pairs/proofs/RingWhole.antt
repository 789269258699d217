-- One crash for all slots, and one place for each write that is out.
use Rattle.std.proofs.Common.{◌≡◌, ℕ, ◌+◌, ◌≤◌, List, length, refl, subst, ap, sym, ◌∙◌, arith, inl, inr}
use Rattle.std.specs.Prelude.{slice_get, Some, Bool, true, false, if◌then◌else◌}
use Rattle.std.proofs.lemmas.Bool.{cases_lt, false≢true}
use Rattle.fst_types.specs.State.{Flight, State, committed, flight_of}
use Rattle.fst_types.specs.Flights.{IsOut}
use Rattle.fst_types.specs.Bytes.{base_under}
use Rattle.fst_pairs.specs.Rings.{Write, Sent, Told, Lane, World, IsReached, InOrder, standing_write, IsWriteOut}
use Rattle.fst_pairs.specs.Whole.{HoldsCrash, Stage, Waits, Stands, Comes, IsAtStage, IsCarriedAt, HasOnePlace}
use Rattle.fst_pairs.proofs.RingLaws.{get_below, run_keeps}
use Rattle.fst_pairs.proofs.RingFlights.{job_of, told_length, lengths, Flies, one_job, same_item}
use Rattle.fst_pairs.proofs.RingPlaces.{is_somewhere, holds_one, job_standing, get_item, none_or_some}
use Rattle.fst_pairs.proofs.RingSlots.{MayHold, Slots, slots_kept, start_slots}

pub reached_slots : (w : World) → IsReached w → Slots w
reached_slots w r = run_keeps Slots slots_kept r.1 r.0 w r.3 (start_slots r.0 r.2)

-- whether the block's write is among those that the crash finishes
abbrev finishes : (s : State) (b : ℕ) (bytes : List ℕ) → MayHold s b bytes → Bool
finishes s b bytes (inl e) = false
finishes s b bytes (inr q) = true

finished_flies : (s : State) (b : ℕ) (bytes : List ℕ) (m : MayHold s b bytes) → finishes s b bytes m ≡ true → (f : Flight) × (flight_of s b ≡ Some f)
finished_flies s b bytes (inl e) t = absurd (false≢true t)
finished_flies s b bytes (inr q) t = (q.0, q.1)

finished_left : (s : State) (b : ℕ) (bytes : List ℕ) (m : MayHold s b bytes) → bytes ≡ (if finishes s b bytes m then base_under (committed s b) (flight_of s b) else committed s b)
finished_left s b bytes (inl e) = e
finished_left s b bytes (inr q) = q.2 ∙ sym (ap (base_under (committed s b)) q.1)

-- what the slot of the block holds, and that this may be
abbrev the_bytes : (w : World) → Slots w → ℕ → List ℕ
the_bytes w s b = (is_somewhere w b s.flies).0

the_may : (w : World) (s : Slots w) (b : ℕ) → MayHold w.state b (the_bytes w s b)
the_may w s b = s.held b (the_bytes w s b) (is_somewhere w b s.flies).1

-- one choice of finished writes tells what all slots hold
pub one_crash : (w : World) → Slots w → (finished : ℕ → Bool) × HoldsCrash w finished
one_crash w s = (
  λ b. finishes w.state b (the_bytes w s b) (the_may w s b),
  record {
    flying = λ b t. finished_flies w.state b (the_bytes w s b) (the_may w s b) t;
    held = λ b bytes h. holds_one w b bytes (the_bytes w s b) s.flies h (is_somewhere w b s.flies).1 ∙ finished_left w.state b (the_bytes w s b) (the_may w s b);
  },
)

-- what is at a stage is a job that is not settled
stage_job : (l : Lane) (n : ℕ) (write : Write) (stage : Stage) → InOrder l → IsAtStage l n write stage → (j : Sent) × (slice_get l.sent n ≡ Some j) × (length l.got ≤ n) × (j.write ≡ write)
stage_job l n write Waits o h =
    let lens = lengths l o in let l0 = lens.0 in let l1 = lens.1 in let more = h.0 in
    (h.1, h.2, omega (arith, l0, l1, more), h.3)
stage_job l n write Stands o h =
    let j = job_standing l h.1 o h.2 in
    let l0 = (lengths l o).0 in let at = h.0 in
    (j.0, subst (λ m. slice_get l.sent m ≡ Some j.0) (sym h.0) j.1, omega (arith, l0, at), j.2 ∙ h.3)
stage_job l n write Comes o h = let j = job_of l n h.1 o h.2 in (j.0, j.1, h.0, j.2 ∙ h.3)

-- a job that is not settled is at some stage
job_stage : (l : Lane) (n : ℕ) (j : Sent) → InOrder l → slice_get l.sent n ≡ Some j → length l.got ≤ n → (stage : Stage) × IsAtStage l n j.write stage
job_stage l n j o at more =
    elim (cases_lt n (length l.received)) [
      | inr past ↦ (Waits, (omega (arith, past), j, at, refl))
      | inl within ↦
          elim (cases_lt n (length l.told)) [
            | inl below ↦
                let d = get_item l.told n below in
                let i = job_of l n d.0 o d.1 in
                (Comes, (more, d.0, d.1, sym i.2 ∙ ap (λ (x : Sent). x.write) (same_item (slice_get l.sent n) i.0 j i.1 at)))
            | inr above ↦
                let whole = told_length l o in
                elim (none_or_some l.standing) [
                  | inl none ↦ let short : length l.told + 0 ≡ length l.received = ap (λ s. length l.told + length (standing_write s)) (sym none) ∙ whole in absurd (omega (arith, short, within, above))
                  | inr some ↦
                      let long : length l.told + 1 ≡ length l.received = ap (λ s. length l.told + length (standing_write s)) (sym some.1) ∙ whole in
                      let last : length l.told ≡ n = omega (arith, long, within, above) in
                      let i = job_standing l some.0 o some.1 in
                      let same = same_item (slice_get l.sent n) i.0 j (subst (λ m. slice_get l.sent m ≡ Some i.0) last i.1) at in
                      (Stands, (sym last, some.0, some.1, sym i.2 ∙ ap (λ (x : Sent). x.write) same))
                ]
          ]
    ]

-- a completion that stands is of the last job that was received
stands_in : (l : Lane) (d : Told) → InOrder l → l.standing ≡ Some d → length l.told + 1 ≡ length l.received
stands_in l d o e = ap (λ s. length l.told + length (standing_write s)) (sym e) ∙ told_length l o

-- the n-th job of a lane is at one stage
one_stage : (l : Lane) (n : ℕ) (x y : Write) (a c : Stage) → InOrder l → IsAtStage l n x a → IsAtStage l n y c → a ≡ c
one_stage l n x y Waits Waits o p q = refl
one_stage l n x y Stands Stands o p q = refl
one_stage l n x y Comes Comes o p q = refl
one_stage l n x y Waits Stands o p q = let long = stands_in l q.1 o q.2 in let p0 = p.0 in let q0 = q.0 in absurd (omega (arith, long, p0, q0))
one_stage l n x y Stands Waits o p q = let long = stands_in l p.1 o p.2 in let p0 = p.0 in let q0 = q.0 in absurd (omega (arith, long, p0, q0))
one_stage l n x y Waits Comes o p q = let below = get_below l.told n q.1 q.2 in let told = (lengths l o).1 in let p0 = p.0 in absurd (omega (arith, below, told, p0))
one_stage l n x y Comes Waits o p q = let below = get_below l.told n p.1 p.2 in let told = (lengths l o).1 in let q0 = q.0 in absurd (omega (arith, below, told, q0))
one_stage l n x y Stands Comes o p q = let below = get_below l.told n q.1 q.2 in let p0 = p.0 in absurd (omega (arith, below, p0))
one_stage l n x y Comes Stands o p q = let below = get_below l.told n p.1 p.2 in let q0 = q.0 in absurd (omega (arith, below, q0))

-- each write that is out has just one job or completion
pub one_place : (w : World) → Flies w → (ticket b : ℕ) (image : List ℕ) → IsOut w.state ticket b image → HasOnePlace w ticket b image
one_place w F ticket b image out =
    let h = F.has ticket b image out in
    let stage = job_stage (w.lanes h.0) h.1 h.2 (F.order h.0) h.3.0 h.3.1 in
    record {
      write = h.2.write;
      lane = h.0;
      number = h.1;
      stage = stage.0;
      there = stage.1;
      of_flight = (h.4, h.5, h.6);
      out = F.out h.0 h.1 h.2 h.3;
      alone = λ other k n c there same.
          let j = stage_job (w.lanes k) n other c (F.order k) there in
          let here = one_job w F k h.0 n h.1 j.0 h.2 (j.1, j.2) h.3 (ap (λ (x : Write). x.block) j.3 ∙ (same ∙ sym h.5)) in (
            here.0,
            here.1,
            one_stage (w.lanes h.0) h.1 other h.2.write c stage.0 (F.order h.0)
                (subst (λ m. IsAtStage (w.lanes h.0) m other c) here.1 (subst (λ (i : ℕ). IsAtStage (w.lanes i) n other c) here.0 there)) stage.1,
          );
    }

-- and nothing else is on the way
pub carried_out : (w : World) → Flies w → (write : Write) (k n : ℕ) (stage : Stage) → IsCarriedAt w write k n stage → IsWriteOut w.state write
carried_out w F write k n stage h =
    let j = stage_job (w.lanes k) n write stage (F.order k) h in
    subst (IsWriteOut w.state) j.3 (F.out k n j.0 (j.1, j.2))
