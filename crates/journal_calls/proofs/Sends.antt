-- What a write does to the state when it is sent out and settled.
use Rattle.std.proofs.Common.{◌≡◌, ℕ, ◌+◌, ◌<◌, List, [], Bool, true, Option, Some, None, IsSome, IfSome, is_some, length, get_or, set, refl, ap, sym, subst, ◌∙◌, arith, inl, inr}
use Rattle.std.proofs.lemmas.Bool.{cases_lt, false≢true}
use Rattle.fst_types.specs.declared.fault.Fault.{Fault}
use Rattle.fst_types.specs.declared.settled.Settled.{Settled as Outcome}
use Rattle.fst_types.specs.declared.settled.Settled.TheVariants as settled
use Rattle.fst_types.specs.Limits.{max_tries}
use Rattle.fst_types.specs.State.{Flight, BlockState, State, block_of, flight_of}
use Rattle.fst_types.specs.Writable.{IsWritable}
use Rattle.fst_types.specs.Flights.{IsOut, IsStalled}
use Rattle.fst_types.specs.Facts.{IsLawful}
use Rattle.fst_types.specs.Events.{Event, Issue, Retry, Settle, Pick, Job, Block, Refused}
use Rattle.fst_types.specs.Looks.{IsPick, IsStalledPick}
use Rattle.fst_types.specs.Order.{IsRefusal}
use Rattle.fst_types.specs.Step.{Step, accepted, refused, Row, pick, issue, retry, land, stall, lose, group}
use Rattle.fst_types.proofs.Moves.{flight_out, put_at, has_block, same_some}
use Rattle.fst_cache.specs.Views.{CacheView}
use Rattle.fst_cache.specs.Replies.{settled_reply, IsStuck}
use Rattle.journal_calls.specs.Exhausted.{IsExhausted, IsWriteRefused, no_flight_left, no_ticket_left, no_memory}
use Rattle.journal_calls.specs.Writing.{IsNext, issues, SendsNext, IsNextRefused, WritesNext}

-- the write of block b is out under the next ticket
pub record IsSent (old : State) (ticket b : ℕ) (image : List ℕ) (new : State) : Type 0 where
  pub out : IsOut new ticket b image
  pub tickets : new.tickets ≡ old.tickets + 1

-- where nothing is picked, nothing is writable
pub picked_none : (old new : State) → Step old Pick (Block None) new → (b : ℕ) → IsWritable old.heads b → ⊥
picked_none old new (accepted n (group m)) = elim m [ ]
picked_none old new (accepted n (pick none_writable)) = none_writable

-- where a block is picked, it is writable
pub picked_some : (old new : State) (b : ℕ) → Step old Pick (Block (Some b)) new → IsWritable old.heads b
picked_some old new b (accepted n (group m)) = elim m [ ]
picked_some old new b (accepted n (pick least)) = least.writable

-- and the least of them
picked_least : (old new : State) (b : ℕ) → Step old Pick (Block (Some b)) new → IsPick old.heads (Some b)
picked_least old new b (accepted n (group m)) = elim m [ ]
picked_least old new b (accepted n (pick least)) = least

-- where nothing waits for another try, the block that is picked is the next to be written
pub issue_is_next : (start old : State) (b : ℕ) → IsStalledPick start None → Step start Pick (Block (Some b)) old → IsNext start (Issue b)
issue_is_next start old b none looked = issues none (picked_least start old b looked)

-- it goes out from the state in which it was picked
pub sends_next : (start old : CacheView) (new : State) (e : Event) (ticket b : ℕ) (image : List ℕ) → old ≡ start → IsNext start.state e → Step old.state e (Job ticket b image) new → SendsNext start.state ticket b image new
sends_next start old new e ticket b image same next step = record { event = e; next = next; step = subst (λ (v : CacheView). Step v.state e (Job ticket b image) new) same step }

-- or can not, and nothing changes
pub next_refused : (start old new : CacheView) (e : Event) (f : Fault) → old ≡ start → new ≡ old → IsNext start.state e → Step old.state e (Refused f) new.state → IsNextRefused new.state f
next_refused start old new e f same still next step = record {
  event = e;
  next = subst (λ (v : CacheView). IsNext v.state e) (sym (still ∙ same)) next;
  step = subst (λ (v : CacheView). Step v.state e (Refused f) new.state) (sym still) step;
}

-- the completion has the ticket, the block and the image of its job
pub writes_next : (old out new : State) (t b u c : ℕ) (image carried : List ℕ) (written : Bool) (how : Outcome) → u ≡ t → c ≡ b → carried ≡ image → SendsNext old t b image out
    → Step out (Settle u c carried written) (settled_reply how) new → WritesNext old how new
writes_next old out new t b u c image carried written how et eb ei sends step = record {
  ticket = u;
  block = c;
  image = carried;
  out = out;
  sends = rw (et, eb, ei) sends;
  written = written;
  settles = step;
}

-- where nothing is stalled and nothing is picked, nothing can be written
pub exhausted : (old new : CacheView) → new ≡ old → ((b : ℕ) → IsStalled old.state b → ⊥) → Step old.state Pick (Block None) new.state → IsStuck old.state → IsExhausted new.state
exhausted old new same unstalled step stuck =
    subst (λ (v : CacheView). IsExhausted v.state) (sym same) (record { unwritable = picked_none old.state new.state step; unstalled = unstalled; held_up = stuck })

-- what is said of a write that was made
pub of_some : (o : Option Outcome) (P : Outcome → Type 0) → is_some o ≡ true → IfSome o P → (how : Outcome) × P how
of_some None P e p = absurd (false≢true e)
of_some (Some how) P e p = (how, p)

-- the flight that was put on block b
put_flight : (old new : State) (b : ℕ) (f : Flight) → b < length old.blocks → new.blocks ≡ set old.blocks b (record (block_of old b) { flight = Some f }) → flight_of new b ≡ Some f
put_flight old new b f inside blocks =
    let v : BlockState = record (block_of old b) { flight = Some f } in
    let nothing : BlockState = record { committed = []; flight = None } in
    let there : get_or (set old.blocks b v) b nothing ≡ v = elim (put_at old.blocks b b v nothing) [ inl h ↦ h.1 | inr h ↦ let past = h.1 refl in absurd (omega (arith, past, inside)) ] in
    ap (λ (x : BlockState). x.flight) (ap (λ (bs : List BlockState). get_or bs b nothing) blocks ∙ there)

sent : (old new : State) (b ticket failed : ℕ) (image : List ℕ) → b < length old.blocks → ticket ≡ old.tickets + 1 → failed < max_tries → new.tickets ≡ ticket
    → new.blocks ≡ set old.blocks b (record (block_of old b) { flight = Some (flight_out ticket image failed) }) → IsSent old ticket b image new
sent old new b ticket failed image inside next few tickets blocks = record {
  out = record { failed = failed; few = few; flight = put_flight old new b (flight_out ticket image failed) inside blocks };
  tickets = tickets ∙ next;
}

pub issue_sends : (old new : State) (c b ticket : ℕ) (image : List ℕ) → Step old (Issue c) (Job ticket b image) new → IsSent old ticket b image new
issue_sends old new c b ticket image (accepted n (group m)) = elim m [ ]
issue_sends old new c b ticket image (accepted n (issue m)) =
    let inside : b < length old.blocks = elim (cases_lt b (length old.blocks)) [ inl lt ↦ lt | inr past ↦ absurd (n.0 past) ] in
    sent old new b ticket 0 image inside m.next (omega arith) (ap (λ s. s.tickets) m.state) (ap (λ s. s.blocks) m.state)

pub retry_sends : (old new : State) (c b ticket : ℕ) (image : List ℕ) → Step old (Retry c) (Job ticket b image) new → IsSent old ticket b image new
retry_sends old new c b ticket image (accepted n (group m)) = elim m [ ]
retry_sends old new c b ticket image (accepted n (retry m)) =
    let late : Flight = record { ticket = m.last; image = image; stalled = true; failed = m.failed } in
    let few : m.failed < max_tries = elim (cases_lt m.failed max_tries) [ inl lt ↦ lt | inr past ↦ absurd (n.1.0 (record { flight = late; there = m.same_image; lost = past })) ] in
    sent old new b ticket m.failed image (has_block old b late m.same_image) m.next few (ap (λ s. s.tickets) m.state) (ap (λ s. s.blocks) m.state)

-- the flight that is there
flight_there : (o : Option Flight) → IsSome o → (f : Flight) × (o ≡ Some f)
flight_there None h = cc
flight_there (Some f) h = (f, refl)

-- a block that may be written is refused for want of room alone
writable_refused : (s : State) (b : ℕ) (f : Fault) → IsLawful s → IsWritable s.heads b → IsRefusal s (Issue b) f → IsWriteRefused s f
writable_refused s b f lawful w (inr free) = subst (λ x. IsWriteRefused s x) (sym free.1) no_memory
writable_refused s b f lawful w (inl first) =
    let ready = w.some in
    elim first [
      | inl h ↦ let inside = (lawful.changes_fit.inside ready.0 b ready.1.in_memory.head ready.1.in_memory.change).0 in absurd (omega (arith, inside, h.0))
      | inr r ↦ elim r.1 [
        | inl h ↦ let flight = flight_there (flight_of s b) h.0 in
            let flies = lawful.flights_have_changes.some b flight.0 flight.1 in
            absurd (w.none_flies flies.0 flies.1.head flies.1.change flies.1.flight)
        | inr r' ↦ elim r'.1 [
          | inl h ↦ absurd (h.0 ready)
          | inr r'' ↦ elim r''.1 [
            | inl h ↦ absurd (h.0.1.left_out (w.hard h.0.0 h.0.1.in_memory h.0.1.hard))
            | inr k ↦ elim k.1 [
              | inl h ↦ subst (λ x. IsWriteRefused s x) (sym h.1) (no_flight_left h.0)
              | inr k' ↦ elim k'.1 [ inl h ↦ subst (λ x. IsWriteRefused s x) (sym h.1) (no_ticket_left h.0) | inr k'' ↦ absurd k''.1 ]
            ]
          ]
        ]
      ]
    ]

issue_step : (b : ℕ) (f : Fault) (s t : State) → IsLawful s → IsWritable s.heads b → Step s (Issue b) (Refused f) t → IsWriteRefused s f
issue_step b f s t lawful w (accepted n (group m)) = elim m [ ]
issue_step b f s t lawful w (refused refusal) = writable_refused s b f lawful w refusal

pub issue_refused : (start old new : CacheView) (b : ℕ) (f : Fault) → old ≡ start → new ≡ old → IsLawful start.state → Step start.state Pick (Block (Some b)) old.state
    → Step old.state (Issue b) (Refused f) new.state → IsWriteRefused new.state f
issue_refused start old new b f picked same lawful looked step =
    let now : CacheView → Type 0 = λ v. IsWriteRefused v.state f in
    subst now (sym same)
    (issue_step b f old.state new.state (subst (λ (v : CacheView). IsLawful v.state) (sym picked) lawful)
    (subst (λ (v : CacheView). IsWritable v.state.heads b) (sym picked) (picked_some start.state old.state b looked)) step)

-- so is another try of a write that failed
stalled_refused : (s : State) (b : ℕ) (f : Fault) → IsLawful s → IsStalled s b → IsRefusal s (Retry b) f → IsWriteRefused s f
stalled_refused s b f lawful stalled (inr free) = absurd free.1
stalled_refused s b f lawful stalled (inl first) =
    let late : Flight = record { ticket = stalled.0; image = stalled.1; stalled = true; failed = stalled.2 } in
    elim first [
      | inl h ↦ let inside = has_block s b late stalled.3 in absurd (omega (arith, inside, h.0))
      | inr r ↦ elim r.1 [
        | inl h ↦ let few = (lawful.tries.stalled b late stalled.3 refl).1 in
            let same = ap (λ (x : Flight). x.failed) (same_some (flight_of s b) h.0.flight late h.0.there stalled.3) in
            let most = h.0.lost in
            absurd (omega (arith, few, same, most))
        | inr r' ↦ elim r'.1 [
          | inl h ↦ absurd (h.0 stalled)
          | inr k ↦ elim k.1 [ inl h ↦ subst (λ x. IsWriteRefused s x) (sym h.1) (no_ticket_left h.0) | inr k' ↦ absurd k'.1 ]
        ]
      ]
    ]

retry_step : (b : ℕ) (f : Fault) (s t : State) → IsLawful s → IsStalled s b → Step s (Retry b) (Refused f) t → IsWriteRefused s f
retry_step b f s t lawful stalled (accepted n (group m)) = elim m [ ]
retry_step b f s t lawful stalled (refused refusal) = stalled_refused s b f lawful stalled refusal

pub retry_refused : (old new : CacheView) (b : ℕ) (f : Fault) → new ≡ old → IsLawful old.state → IsStalled old.state b → Step old.state (Retry b) (Refused f) new.state → IsWriteRefused new.state f
retry_refused old new b f same lawful stalled step = subst (λ (v : CacheView). IsWriteRefused v.state f) (sym same) (retry_step b f old.state new.state lawful stalled step)

settle_row : (old new : State) (ticket b : ℕ) (image : List ℕ) (written : Bool) (how : Outcome) → Row old (Settle ticket b image written) (settled_reply how) new → new.tickets ≡ old.tickets
settle_row old new ticket b image written settled.Landed (group m) = elim m [ ]
settle_row old new ticket b image written settled.Stalled (group m) = elim m [ ]
settle_row old new ticket b image written settled.Lost (group m) = elim m [ ]
settle_row old new ticket b image written settled.Landed (land m) = ap (λ s. s.tickets) m.state
settle_row old new ticket b image written settled.Stalled (stall m) = ap (λ s. s.tickets) m.state
settle_row old new ticket b image written settled.Lost (lose m) = ap (λ s. s.tickets) m.state

-- a settled write gives out no ticket
pub settle_keeps : (old new : State) (ticket b : ℕ) (image : List ℕ) (written : Bool) (how : Outcome) → Step old (Settle ticket b image written) (settled_reply how) new → new.tickets ≡ old.tickets
settle_keeps old new ticket b image written settled.Landed (accepted n row) = settle_row old new ticket b image written settled.Landed row
settle_keeps old new ticket b image written settled.Stalled (accepted n row) = settle_row old new ticket b image written settled.Stalled row
settle_keeps old new ticket b image written settled.Lost (accepted n row) = settle_row old new ticket b image written settled.Lost row

no_row : (old new : State) (ticket b : ℕ) (image : List ℕ) (written : Bool) (f : Fault) → Row old (Settle ticket b image written) (Refused f) new → ⊥
no_row old new ticket b image written f (group m) = elim m [ ]

-- a write that is out is taken in
pub out_settles : (old new : State) (ticket b : ℕ) (image : List ℕ) (written : Bool) (f : Fault) → IsOut old ticket b image → Step old (Settle ticket b image written) (Refused f) new → ⊥
out_settles old new ticket b image written f out (accepted n row) = no_row old new ticket b image written f row
out_settles old new ticket b image written f out (refused refusal) = elim refusal [ inl h ↦ elim h [ inl k ↦ k.0 out | inr k ↦ k.1 ] | inr h ↦ h.1 ]

-- nor is one that was carried, which has the ticket, the block and the image of its job
pub carried_settles : (old new : State) (t u b c : ℕ) (image carried : List ℕ) (written : Bool) (f : Fault) → u ≡ t → c ≡ b → carried ≡ image
    → IsOut old t b image → Step old (Settle u c carried written) (Refused f) new → ⊥
carried_settles old new t u b c image carried written f et eb ei out step =
    let same : IsOut old u c carried =
    subst (λ x. IsOut old x c carried) (sym et) (subst (λ x. IsOut old t x carried) (sym eb) (subst (λ x. IsOut old t b x) (sym ei) out))
    in
    out_settles old new u c carried written f same step
