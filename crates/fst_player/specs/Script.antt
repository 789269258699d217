-- What a player keeps, what it answers to a line, and runs of lines.
use Rattle.std.specs.Prelude.{◌≡◌, ◌==◌, ◌&&◌, ◌⊎◌, ◌<◌, ◌≤◌, ℕ, Bool, true, false, List, [], ◌∷◌, ◌++◌, Option, Some, None, Result, Ok, Err, map, filter, find, length, is_some, nat_le, option_map, replicate, if◌then◌else◌}
use Rattle.std.specs.List.{range_with_len}
use Rattle.fst_types.specs.declared.place.Place.{Place}
use Rattle.fst_types.specs.declared.place.Place.TheVariants as at_place
use Rattle.fst_types.specs.declared.fault.Fault.{Fault}
use Rattle.fst_types.specs.declared.fault.Fault.TheVariants as fault
use Rattle.fst_types.specs.declared.shape.Shape.{Shape}
use Rattle.fst_types.specs.Fold.{fold}
use Rattle.fst_types.specs.Tests.{is_among}
use Rattle.fst_types.specs.State.{State, flight_of}
use Rattle.fst_types.specs.Opening.{opening}
use Rattle.fst_types.specs.Bytes.{changes_at}
use Rattle.fst_types.specs.Looks.{place_of}
use Rattle.fst_types.specs.Events.{Event, MakeChange, MakeEmpty, MakeGate, Depend, Seal, Issue, Settle, Retry, Evict, Forget, Choose, Pick, Show, AskPlace, AskStat, GroupNew, GroupAfter, GroupPatch, GroupClose, Reply, MadeChange, Made, Accepted, Job, Landed, Stalled, Lost, Forgot, Chosen, Block, Shown, PlaceIs, StatIs, Refused}
use Rattle.fst_types.specs.Step.{Step}
use Rattle.fst_types.specs.Run.{ChangeMade, made_after}
use Rattle.fst_lines.specs.declared.failure.Failure.{Failure}
use Rattle.fst_lines.specs.declared.failure.Failure.TheVariants as failures
use Rattle.fst_lines.specs.Commands.{Command, patch, empty, gate, depend, seal, choose, pick, write, done, retry, evict, show, place, forget, stat, crash, group_new, group_after, group_patch, group_close, max_line, command_of}
use Rattle.fst_lines.specs.Replies.{refusal, patch_text, empty_text, gate_text, depend_text, seal_text, group_text, group_after_text, group_close_text, chosen_text, pick_text, flight_text, done_text, stalled_text, lost_text, evict_text, show_text, place_text, forget_text, stat_text, crash_text}

-- a job that the player keeps: a write that is out
pub record JobKept : Type 0 where
  pub ticket : ℕ
  pub block : ℕ
  pub image : List ℕ

-- the cache's state, the jobs that the player keeps, and the changes that were accepted, the oldest first
pub record PlayerState : Type 0 where
  pub cache : State
  pub jobs : List JobKept
  pub made : List ChangeMade

-- at the start every block is zero, and nothing is kept
abbrev pub opened : Shape → PlayerState
opened shape = record { cache = opening shape.size shape.resident 0 0 (replicate shape.blocks (replicate shape.size 0)); jobs = []; made = [] }

-- the job of a ticket
abbrev pub job_of : List JobKept → ℕ → Option JobKept
job_of jobs ticket = find (λ j. j.ticket == ticket) jobs

-- the jobs without that of a ticket
abbrev pub without : ℕ → List JobKept → List JobKept
without ticket [] = []
without ticket (j ∷ js) = if j.ticket == ticket then js else j ∷ without ticket js

-- whether the write of a job is made: a failing read is met later
abbrev pub is_made : Option Failure → Bool
is_made None = true
is_made (Some failures.Before) = false
is_made (Some failures.After) = false
is_made (Some failures.Read) = true

-- the call of the cache that a command makes, if it makes one; `faulted` says whether the slot's count of faults rose in it
abbrev pub call_of : PlayerState → Bool → Command → Option Event
call_of p faulted (patch block at bytes after) = Some (MakeChange p.cache.made block at bytes after faulted)
call_of p faulted (empty after) = Some (MakeEmpty p.cache.made after)
call_of p faulted gate = Some (MakeGate p.cache.made)
call_of p faulted (depend number on) = Some (Depend number on)
call_of p faulted (seal number) = Some (Seal number)
call_of p faulted (choose block) = Some (Choose block)
call_of p faulted pick = Some Pick
call_of p faulted (write block) = Some (Issue block)
call_of p faulted (done ticket fail) = option_map (λ job. Settle ticket job.block job.image (is_made fail)) (job_of p.jobs ticket)
call_of p faulted (retry block) = Some (Retry block)
call_of p faulted (evict block) = Some (Evict block)
call_of p faulted (show block) = Some (Show block faulted)
call_of p faulted (place number) = Some (AskPlace number)
call_of p faulted forget = Some Forget
call_of p faulted stat = Some AskStat
call_of p faulted (crash finish) = None
call_of p faulted group_new = Some (GroupNew p.cache.made)
call_of p faulted (group_after group on) = Some (GroupAfter group on)
call_of p faulted (group_patch group block at bytes) = Some (GroupPatch p.cache.made group block at bytes faulted)
call_of p faulted (group_close group) = Some (GroupClose group)

-- the numbers in flight of a block
abbrev pub in_flight : State → ℕ → List ℕ
in_flight s block = map (λ p. p.number) (changes_at s at_place.Flight block)

-- the text of what a call answered, s being the state after it
abbrev pub text_of : State → Event → Reply → List ℕ
text_of s e (Refused f) = refusal f
text_of s e (MadeChange number grade) = patch_text number grade
text_of s (MakeEmpty share after) (Made number) = empty_text number
text_of s (MakeGate share) (Made number) = gate_text number
text_of s (Depend number on) Accepted = depend_text number
text_of s (Seal number) Accepted = seal_text number
text_of s (Choose block) (Chosen patches) = chosen_text block patches
text_of s Pick (Block picked) = pick_text picked
text_of s e (Job ticket block image) = flight_text ticket block (in_flight s block) image
text_of s (Settle ticket block image written) Landed = done_text ticket block
text_of s (Settle ticket block image written) Stalled = stalled_text ticket block
text_of s (Settle ticket block image written) Lost = lost_text ticket block
text_of s (Evict block) Accepted = evict_text block
text_of s (Show block faulted) (Shown bytes) = show_text block bytes
text_of s (AskPlace number) (PlaceIs found) = place_text number found
text_of s Forget (Forgot patches) = forget_text patches
text_of s AskStat (StatIs told) = stat_text told
text_of s (GroupNew share) (Made number) = group_text number
text_of s (GroupAfter group on) Accepted = group_after_text group
text_of s (GroupClose group) Accepted = group_close_text group
text_of s _ _ = []

-- the jobs kept after a call: the one that it gave is added, and the one that it took is gone
abbrev pub jobs_after : List JobKept → Event → Reply → List JobKept
jobs_after jobs e (Job ticket block image) = jobs ++ record { ticket = ticket; block = block; image = image } ∷ []
jobs_after jobs (Settle ticket block image written) Landed = without ticket jobs
jobs_after jobs (Settle ticket block image written) Stalled = without ticket jobs
jobs_after jobs (Settle ticket block image written) Lost = without ticket jobs
jobs_after jobs _ _ = jobs

-- what the player keeps after a call
abbrev pub after_call : PlayerState → Event → Reply → State → PlayerState
after_call p e r s = record { cache = s; jobs = jobs_after p.jobs e r; made = made_after p.made e r }

-- why a block can not be among those whose write a crash finishes: there is no such block, or nothing of it is in flight
abbrev pub finish_fault : State → ℕ → Option Fault
finish_fault s block = if nat_le (length s.blocks) block then Some fault.NoBlock else if is_some (flight_of s block) then None else Some fault.Stranger

-- the first such reason of a list
abbrev pub first_finish_fault : State → List ℕ → Option Fault
first_finish_fault s [] = None
first_finish_fault s (block ∷ blocks) = or_else (finish_fault s block) (first_finish_fault s blocks)
  where
    or_else : Option Fault → Option Fault → Option Fault
    or_else (Some f) other = Some f
    or_else None other = other

-- a crash leaves what is on disk, and what is in flight where its write was finished
abbrev pub is_left_at : Bool → Option Place → Bool
is_left_at finished (Some at_place.Disk) = true
is_left_at finished (Some at_place.Flight) = finished
is_left_at finished _ = false

-- a crash leaves this change, the writes of these blocks being finished
abbrev pub is_left : State → List ℕ → ChangeMade → Bool
is_left s finish c = is_left_at (is_among finish c.block) (place_of s.heads s.numbers c.number)

-- what a crash leaves of a block: zero bytes with those of the changes left over them
abbrev pub left_of : PlayerState → List ℕ → ℕ → List ℕ
left_of p finish block = fold (replicate p.cache.size 0) (map (λ c. c.write) (filter (λ c. c.block == block && is_left p.cache finish c) p.made))

abbrev pub left_of_each : PlayerState → List ℕ → List (List ℕ)
left_of_each p finish = map (left_of p finish) (range_with_len 0 (length p.cache.blocks))

-- what the player may answer to a command, and what it keeps then
pub data Obeys (old : PlayerState) : Command → List ℕ → PlayerState → Type 0 where
  -- the command makes one step of the cache
  called : {command : Command} (faulted : Bool) {e : Event} {r : Reply} {s : State}
      → call_of old faulted command ≡ Some e → Step old.cache e r s → Obeys old command (text_of s e r) (after_call old e r s)
  -- no job of the ticket is kept
  stranger : {ticket : ℕ} {fail : Option Failure} → job_of old.jobs ticket ≡ None → Obeys old (done ticket fail) (refusal fault.Stranger) old
  -- a crash is only looked at
  crashed : {finish : List ℕ} → first_finish_fault old.cache finish ≡ None → Obeys old (crash finish) (crash_text (left_of_each old finish)) old
  not_crashed : {finish : List ℕ} {f : Fault} → first_finish_fault old.cache finish ≡ Some f → Obeys old (crash finish) (refusal f) old

-- the same of a line that was parsed
abbrev pub Replies : PlayerState → Result Command Fault → List ℕ → PlayerState → Type 0
Replies old (Ok command) reply new = Obeys old command reply new
Replies old (Err f) reply new = (reply ≡ refusal f) × (new ≡ old)

-- memory may be refused at any line, and nothing changes
abbrev pub MayReply : PlayerState → Result Command Fault → List ℕ → PlayerState → Type 0
MayReply old asked reply new = ((reply ≡ refusal fault.Memory) × (new ≡ old)) ⊎ Replies old asked reply new

-- what the player may answer to a line, and what it keeps then: a line that is too long takes no memory
abbrev pub Answers : PlayerState → List ℕ → List ℕ → PlayerState → Type 0
Answers old line reply new =
    ((max_line < length line) × Replies old (command_of line) reply new) ⊎ ((length line ≤ max_line) × MayReply old (command_of line) reply new)

-- one reply a line, each with its end, and nothing else
abbrev pub IsScriptRun : PlayerState → List (List ℕ) → List ℕ → PlayerState → Type 0
IsScriptRun old [] sent new = (sent ≡ []) × (new ≡ old)
IsScriptRun old (line ∷ lines) sent new =
    (reply : List ℕ) × (mid : PlayerState) × (more : List ℕ) × Answers old line reply mid × IsScriptRun mid lines more new × (sent ≡ reply ++ 10 ∷ more)
