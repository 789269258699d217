-- What a call, a send and a settlement do to the state: which block changes, and whether a write of it is out then.
use Rattle.std.proofs.Common.{◌≡◌, ◌≢◌, ℕ, ◌+◌, ◌<◌, List, [], length, get_or, set, refl, ap, ◌∙◌, arith, inl, inr}
use Rattle.std.specs.Prelude.{Some, None, Bool, true, false, MatchBool}
use Rattle.std.proofs.lemmas.Bool.{cases_lt}
use Rattle.fst_types.specs.declared.fault.Fault.{Fault}
use Rattle.fst_types.specs.State.{Flight, BlockState, State, block_of, committed, flight_of}
use Rattle.fst_types.specs.Flights.{IsOut}
use Rattle.fst_types.specs.Events.{Event, Issue, Settle, Retry, Reply, Job, Refused}
use Rattle.fst_types.specs.Step.{Step, accepted, refused, Row, change, empty, gate, depend, seal, issue, land, stall, lose, retry, evict, forget, choose, pick, show, ask_place, ask_flight, ask_stalled, ask_stat, group}
use Rattle.fst_types.specs.declared.settled.Settled.{Settled as Outcome}
use Rattle.fst_types.specs.declared.settled.Settled.TheVariants as settled
use Rattle.fst_types.specs.Limits.{max_tries}
use Rattle.fst_types.specs.Run.{made_after}
use Rattle.fst_types.proofs.Moves.{IsOver, clash, flight_out, put_at, has_block, out_block, same_some}
use Rattle.fst_types.proofs.Parts.{made_by, parts_row, grown_parts}
use Rattle.fst_cache.specs.Replies.{settled_reply}
use Rattle.fst_pairs.proofs.Flying.{none_home, over_home}
use Rattle.fst_pairs.specs.Rings.{TouchesNoRing, IsAtHome}

-- nothing of block b changed
abbrev pub SameAt : State → State → ℕ → Type 0
SameAt old new b = (flight_of new b ≡ flight_of old b) × (committed new b ≡ committed old b)

same_block : (old new : State) (b : ℕ) → block_of new b ≡ block_of old b → SameAt old new b
same_block old new b e = (ap (λ (x : BlockState). x.flight) e, ap (λ (x : BlockState). x.committed) e)

abbrev nothing_there : BlockState
nothing_there = record { committed = []; flight = None }

row_keeps : (old new : State) (e : Event) (r : Reply) → Row old e r new → TouchesNoRing e → (new.tickets ≡ old.tickets) × (new.blocks ≡ old.blocks)
row_keeps old new e r (change m) q = (ap (λ s. s.tickets) m.state, ap (λ s. s.blocks) m.state)
row_keeps old new e r (empty m) q = (ap (λ s. s.tickets) m.state, ap (λ s. s.blocks) m.state)
row_keeps old new e r (gate m) q = (ap (λ s. s.tickets) m.state, ap (λ s. s.blocks) m.state)
row_keeps old new e r (depend m) q = (ap (λ s. s.tickets) m.state, ap (λ s. s.blocks) m.state)
row_keeps old new e r (seal m) q = (ap (λ s. s.tickets) m.state, ap (λ s. s.blocks) m.state)
row_keeps old new e r (issue m) q = absurd q
row_keeps old new e r (land m) q = absurd q
row_keeps old new e r (stall m) q = absurd q
row_keeps old new e r (lose m) q = absurd q
row_keeps old new e r (retry m) q = absurd q
row_keeps old new e r evict q = (refl, refl)
row_keeps old new e r (forget m) q = (ap (λ s. s.tickets) m.state, ap (λ s. s.blocks) m.state)
row_keeps old new e r (choose m) q = (refl, refl)
row_keeps old new e r (pick m) q = (refl, refl)
row_keeps old new e r show q = (refl, refl)
row_keeps old new e r ask_place q = (refl, refl)
row_keeps old new e r ask_flight q = (refl, refl)
row_keeps old new e r (ask_stalled m) q = (refl, refl)
row_keeps old new e r ask_stat q = (refl, refl)
row_keeps old new e r (group m) q = let k = grown_parts old (made_by e) (made_after [] e r) new (parts_row old e r new m) in (k.tickets, k.blocks)

-- a call that touches no ring keeps tickets and blocks
step_keeps : (old new : State) (e : Event) (r : Reply) → Step old e r new → TouchesNoRing e → (new.tickets ≡ old.tickets) × (new.blocks ≡ old.blocks)
step_keeps old new e r (accepted n row) q = row_keeps old new e r row q
step_keeps old new e r (refused refusal) q = (refl, refl)

pub call_keeps : (old new : State) (e : Event) (r : Reply) → Step old e r new → TouchesNoRing e → (new.tickets ≡ old.tickets) × ((b : ℕ) → SameAt old new b)
call_keeps old new e r step q =
    let k = step_keeps old new e r step q in
    (k.0, λ b. same_block old new b (ap (λ (bs : List BlockState). get_or bs b nothing_there) k.1))

-- the blocks after one of them was replaced
put_block : (old new : State) (b : ℕ) (v : BlockState) → b < length old.blocks → new.blocks ≡ set old.blocks b v
    → (block_of new b ≡ v) × ((c : ℕ) → c ≢ b → block_of new c ≡ block_of old c)
put_block old new b v inside blocks =
    let moved : (c : ℕ) → block_of new c ≡ get_or (set old.blocks b v) c nothing_there = λ c. ap (λ (bs : List BlockState). get_or bs c nothing_there) blocks in (
      elim (put_at old.blocks b b v nothing_there) [ inl h ↦ moved b ∙ h.1 | inr h ↦ let past = h.1 refl in absurd (omega (arith, past, inside)) ],
      λ c ne. elim (put_at old.blocks b c v nothing_there) [ inl h ↦ absurd (ne h.0) | inr h ↦ moved c ∙ h.0 ],
    )

-- what sending a write of block b does to the state
pub record SendsNow (old : State) (b ticket : ℕ) (image : List ℕ) (new : State) : Type 0 where
  pub next : ticket ≡ old.tickets + 1
  pub tickets : new.tickets ≡ old.tickets + 1
  pub free : IsAtHome old b
  pub again : (f : Flight) → flight_of old b ≡ Some f → f.image ≡ image
  pub out : IsOut new ticket b image
  pub committed : committed new b ≡ committed old b
  pub others : (c : ℕ) → c ≢ b → SameAt old new c

sends_now : (old new : State) (b ticket failed : ℕ) (image : List ℕ) → b < length old.blocks → ticket ≡ old.tickets + 1 → failed < max_tries → new.tickets ≡ ticket
    → new.blocks ≡ set old.blocks b (record (block_of old b) { flight = Some (flight_out ticket image failed) })
    → IsAtHome old b → ((f : Flight) → flight_of old b ≡ Some f → f.image ≡ image)
    → SendsNow old b ticket image new
sends_now old new b ticket failed image inside next few tickets blocks free again =
    let p = put_block old new b (record (block_of old b) { flight = Some (flight_out ticket image failed) }) inside blocks in
    record {
      next = next;
      tickets = tickets ∙ next;
      free = free;
      again = again;
      out = record { failed = failed; few = few; flight = ap (λ (x : BlockState). x.flight) p.0 };
      committed = ap (λ (x : BlockState). x.committed) p.0;
      others = λ c ne. same_block old new c (p.1 c ne);
    }

pub issue_sends : (old new : State) (c b ticket : ℕ) (image : List ℕ) → Step old (Issue c) (Job ticket b image) new → SendsNow old b ticket image new
issue_sends old new c b ticket image (accepted n (group m)) = elim m [ ]
issue_sends old new c b ticket image (accepted n (issue m)) =
    let inside : b < length old.blocks = elim (cases_lt b (length old.blocks)) [ inl lt ↦ lt | inr past ↦ absurd (n.0 past) ] in
    sends_now old new b ticket 0 image inside m.next (omega arith) (ap (λ s. s.tickets) m.state) (ap (λ s. s.blocks) m.state) (none_home old b m.home) (λ f at. absurd (clash (flight_of old b) f m.home at))

pub retry_sends : (old new : State) (c b ticket : ℕ) (image : List ℕ) → Step old (Retry c) (Job ticket b image) new → SendsNow old b ticket image new
retry_sends old new c b ticket image (accepted n (group m)) = elim m [ ]
retry_sends old new c b ticket image (accepted n (retry m)) =
    let late : Flight = record { ticket = m.last; image = image; stalled = true; failed = m.failed } in
    let inside = has_block old b late m.same_image in
    let few : m.failed < max_tries = elim (cases_lt m.failed max_tries) [ inl lt ↦ lt | inr past ↦ absurd (n.1.0 (record { flight = late; there = m.same_image; lost = past })) ] in
    sends_now old new b ticket m.failed image inside m.next few (ap (λ s. s.tickets) m.state) (ap (λ s. s.blocks) m.state) (over_home old b late m.same_image (inl refl))
    (λ f at. ap (λ (g : Flight). g.image) (same_some (flight_of old b) f late at m.same_image))

-- what settling a write of block b does to the state: it landed, or its flight is over
pub record SettlesNow (old : State) (ticket b : ℕ) (image : List ℕ) (written : Bool) (new : State) : Type 0 where
  pub out : IsOut old ticket b image
  pub tickets : new.tickets ≡ old.tickets
  pub home : IsAtHome new b
  pub now : MatchBool written ((flight_of new b ≡ None) × (committed new b ≡ image)) (((f : Flight) × (flight_of new b ≡ Some f) × (f.image ≡ image)) × (committed new b ≡ committed old b))
  pub others : (c : ℕ) → c ≢ b → SameAt old new c

-- it failed, and its flight is over
fails_now : (old new : State) (ticket b : ℕ) (image : List ℕ) (f : Flight) → IsOver f → f.image ≡ image → IsOut old ticket b image → new.tickets ≡ old.tickets
    → new.blocks ≡ set old.blocks b (record (block_of old b) { flight = Some f }) → SettlesNow old ticket b image false new
fails_now old new ticket b image f over same out tickets blocks =
    let p = put_block old new b (record (block_of old b) { flight = Some f }) (out_block old ticket b image out) blocks in
    let there = ap (λ (x : BlockState). x.flight) p.0 in
    record {
      out = out;
      tickets = tickets;
      home = over_home new b f there over;
      now = ((f, there, same), ap (λ (x : BlockState). x.committed) p.0);
      others = λ c ne. same_block old new c (p.1 c ne);
    }

settle_row : (old new : State) (ticket b : ℕ) (image : List ℕ) (written : Bool) (how : Outcome) → Row old (Settle ticket b image written) (settled_reply how) new → SettlesNow old ticket b image written new
settle_row old new ticket b image written settled.Landed (land m) =
    let p = put_block old new b (record { committed = image; flight = None }) (out_block old ticket b image m.out) (ap (λ s. s.blocks) m.state) in
    let gone = ap (λ (x : BlockState). x.flight) p.0 in
    record {
      out = m.out;
      tickets = ap (λ s. s.tickets) m.state;
      home = none_home new b gone;
      now = (gone, ap (λ (x : BlockState). x.committed) p.0);
      others = λ c ne. same_block old new c (p.1 c ne);
    }
settle_row old new ticket b image written settled.Stalled (stall m) =
    fails_now old new ticket b image (record { ticket = ticket; image = image; stalled = true; failed = m.out.failed + 1 }) (inl refl) refl m.out (ap (λ s. s.tickets) m.state) (ap (λ s. s.blocks) m.state)
settle_row old new ticket b image written settled.Lost (lose m) =
    fails_now old new ticket b image (flight_out ticket image max_tries) (inr (omega arith)) refl m.out (ap (λ s. s.tickets) m.state) (ap (λ s. s.blocks) m.state)
settle_row old new ticket b image written settled.Landed (group m) = elim m [ ]
settle_row old new ticket b image written settled.Stalled (group m) = elim m [ ]
settle_row old new ticket b image written settled.Lost (group m) = elim m [ ]

pub settle_settles : (old new : State) (ticket b : ℕ) (image : List ℕ) (written : Bool) (how : Outcome) → Step old (Settle ticket b image written) (settled_reply how) new → SettlesNow old ticket b image written new
settle_settles old new ticket b image written settled.Landed (accepted n row) = settle_row old new ticket b image written settled.Landed row
settle_settles old new ticket b image written settled.Stalled (accepted n row) = settle_row old new ticket b image written settled.Stalled row
settle_settles old new ticket b image written settled.Lost (accepted n row) = settle_row old new ticket b image written settled.Lost row

-- a write that is out is not refused
no_row : (old new : State) (ticket b : ℕ) (image : List ℕ) (written : Bool) (f : Fault) → Row old (Settle ticket b image written) (Refused f) new → ⊥
no_row old new ticket b image written f (group m) = elim m [ ]

pub out_settles : (old new : State) (ticket b : ℕ) (image : List ℕ) (written : Bool) (f : Fault) → IsOut old ticket b image
    → Step old (Settle ticket b image written) (Refused f) new → ⊥
out_settles old new ticket b image written f out (accepted n row) = no_row old new ticket b image written f row
out_settles old new ticket b image written f out (refused refusal) = elim refusal [ inl h ↦ elim h [ inl k ↦ k.0 out | inr k ↦ k.1 ] | inr h ↦ h.1 ]
