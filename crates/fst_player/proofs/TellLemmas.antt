-- What a command is answered, from the call that it made.
use Rattle.std.proofs.Common.{◌≡◌, ℕ, Bool, false, List, [], ◌∷◌, ◌++◌, Option, Some, None, Result, refl, sym, ap, subst, inr}
use Rattle.std.specs.Prelude.{option_map}
use Rattle.std.proofs.lemmas.List.{map-append}
use Rattle.fst_types.specs.declared.fault.Fault.TheVariants as fault
use Rattle.fst_types.specs.declared.settled.Settled.{Settled}
use Rattle.fst_types.specs.declared.settled.Settled.TheVariants as settled
use Rattle.fst_types.specs.State.{State}
use Rattle.fst_types.specs.Events.{Stat, Event, Settle, AskPlace, AskStat, Reply, Landed, Stalled, Lost, PlaceIs, StatIs}
use Rattle.fst_types.specs.Looks.{place_of, stat_of}
use Rattle.fst_types.specs.Run.{ChangeMade}
use Rattle.fst_types.specs.Step.{Step, accepted, ask_place, ask_stat}
use Rattle.fst_cache.specs.Replies.{settled_reply}
use Rattle.fst_device.specs.JobView.{JobView}
use Rattle.fst_device.specs.MemoryView.{MemoryView}
use Rattle.fst_lines.specs.declared.failure.Failure.{Failure}
use Rattle.fst_lines.specs.Commands.{Command, done, place, stat}
use Rattle.fst_lines.specs.Sending.{Sends}
use Rattle.fst_lines.specs.Replies.{refusal, place_text, stat_text, settled_text}
use Rattle.fst_player.specs.Script.{PlayerState, JobKept, Obeys, call_of, text_of, after_call, job_of, without, is_made, called, stranger}
use Rattle.fst_player.specs.Kept.{job_kept, jobs_kept}
use Rattle.fst_player.specs.Answering.{Obeyed}

-- what contracts see of a player
abbrev pub player_at : State → List (JobView MemoryView) → List ChangeMade → PlayerState
player_at s jobs made = record { cache = s; jobs = jobs_kept jobs; made = made }

-- the command makes a call, which was answered so
pub Obeyed-called : {T E : Type 0} (p q : PlayerState) (c : Command) (faulted : Bool) (e : Event) (r : Reply) (s : State) (a b : Option (List ℕ)) (told : Result T E)
    → call_of p faulted c ≡ Some e → Step p.cache e r s → q ≡ after_call p e r s → Sends a b told (text_of s e r ++ 10 ∷ []) → Obeyed p c a b told q
Obeyed-called p q c faulted e r s a b told call step same sent =
    (text_of s e r, inr (subst (λ (x : PlayerState). Obeys p c (text_of s e r) x) (sym same) (called faulted call step)), sent)

-- the place of a patch was asked, and the counts were
pub Obeyed-place : {T E : Type 0} (p : PlayerState) (number : ℕ) (a b : Option (List ℕ)) (told : Result T E)
    → Sends a b told (place_text number (place_of p.cache.heads p.cache.numbers number) ++ 10 ∷ []) → Obeyed p (place number) a b told p
Obeyed-place p number a b told sent =
    Obeyed-called p p (place number) false (AskPlace number) (PlaceIs (place_of p.cache.heads p.cache.numbers number)) p.cache a b told refl (accepted tt ask_place) refl sent

pub Obeyed-stat : {T E : Type 0} (p : PlayerState) (counts : Stat) (a b : Option (List ℕ)) (told : Result T E)
    → counts ≡ stat_of p.cache → Sends a b told (stat_text counts ++ 10 ∷ []) → Obeyed p stat a b told p
Obeyed-stat p counts a b told same sent =
    Obeyed-called p p stat false AskStat (StatIs (stat_of p.cache)) p.cache a b told refl (accepted tt ask_stat) refl (subst (λ (x : Stat). Sends a b told (stat_text x ++ 10 ∷ [])) same sent)

-- no job of the ticket is kept
pub Obeyed-stranger : {T E : Type 0} (p : PlayerState) (ticket : ℕ) (fail : Option Failure) (a b : Option (List ℕ)) (told : Result T E)
    → job_of p.jobs ticket ≡ None → Sends a b told (refusal fault.Stranger ++ 10 ∷ []) → Obeyed p (done ticket fail) a b told p
Obeyed-stranger p ticket fail a b told none sent = (refusal fault.Stranger, inr (stranger none), sent)

-- the kept job of the ticket was settled
pub Obeyed-settled : {T E : Type 0} (p q : PlayerState) (ticket : ℕ) (fail : Option Failure) (job : JobKept) (s : State) (x : Settled) (a b : Option (List ℕ)) (told : Result T E)
    → job_of p.jobs ticket ≡ Some job → Step p.cache (Settle ticket job.block job.image (is_made fail)) (settled_reply x) s
    → q ≡ record { cache = s; jobs = without ticket p.jobs; made = p.made } → Sends a b told (settled_text ticket job.block x ++ 10 ∷ []) → Obeyed p (done ticket fail) a b told q
Obeyed-settled p q ticket fail job s settled.Landed a b told found step same sent =
    Obeyed-called p q (done ticket fail) false (Settle ticket job.block job.image (is_made fail)) Landed s a b told (ap (option_map (λ (j : JobKept). Settle ticket j.block j.image (is_made fail))) found) step same sent
Obeyed-settled p q ticket fail job s settled.Stalled a b told found step same sent =
    Obeyed-called p q (done ticket fail) false (Settle ticket job.block job.image (is_made fail)) Stalled s a b told (ap (option_map (λ (j : JobKept). Settle ticket j.block j.image (is_made fail))) found) step same sent
Obeyed-settled p q ticket fail job s settled.Lost a b told found step same sent =
    Obeyed-called p q (done ticket fail) false (Settle ticket job.block job.image (is_made fail)) Lost s a b told (ap (option_map (λ (j : JobKept). Settle ticket j.block j.image (is_made fail))) found) step same sent

-- one job more is kept
pub one_job_more : (s : State) (jobs : List (JobView MemoryView)) (made : List ChangeMade) (job : JobView MemoryView)
    → (let x : PlayerState = record { cache = s; jobs = jobs_kept (jobs ++ job ∷ []); made = made } in x) ≡ record { cache = s; jobs = jobs_kept jobs ++ job_kept job ∷ []; made = made }
one_job_more s jobs made job = ap (λ (l : List JobKept). let x : PlayerState = record { cache = s; jobs = l; made = made } in x) (map-append job_kept jobs (job ∷ []))
