-- A script's run is a run of the cache.
use Rattle.std.proofs.Common.{◌≡◌, ℕ, List, [], ◌∷◌, Result, Ok, Err, refl, sym, ap, subst, ◌∙◌, inl, inr}
use Rattle.fst_types.specs.declared.fault.Fault.{Fault}
use Rattle.fst_types.specs.State.{State}
use Rattle.fst_types.specs.Events.{Event, Reply}
use Rattle.fst_types.specs.Step.{Step}
use Rattle.fst_types.specs.Run.{ChangeMade, start, more, made_after}
use Rattle.fst_types.proofs.LandingOrder.{changes_more}
use Rattle.fst_lines.specs.Commands.{Command, command_of}
use Rattle.fst_player.specs.Script.{PlayerState, opened, Obeys, called, stranger, crashed, not_crashed, Replies, MayReply, Answers, IsScriptRun}
use Rattle.fst_player.specs.Kept.{Came}
use Rattle.fst_player.specs.Law.{ScriptIsRun}

-- one call more
pub came_more : (first old new : State) (made : List ChangeMade) (e : Event) (r : Reply) → Came first old made → Step old e r new → Came first new (made_after made e r)
came_more first old new made e r (calls, run, same) step = (_, more run step, ap (λ m. made_after m e r) same ∙ sym (changes_more calls e r))

-- the player's cache came from `first` by calls whose changes the player keeps
abbrev CameTo : State → PlayerState → Type 0
CameTo first p = Came first p.cache p.made

obeys_on : (first : State) (old : PlayerState) (c : Command) (reply : List ℕ) (new : PlayerState) → Obeys old c reply new → CameTo first old → CameTo first new
obeys_on first old c reply new (called faulted {e = e} {r = r} {s = s} is step) came = came_more first old.cache s old.made e r came step
obeys_on first old c reply new (stranger none) came = came
obeys_on first old c reply new (crashed none) came = came
obeys_on first old c reply new (not_crashed some) came = came

same_on : (first : State) (old new : PlayerState) → new ≡ old → CameTo first old → CameTo first new
same_on first old new e came = subst (CameTo first) (sym e) came

replies_on : (first : State) (old : PlayerState) (asked : Result Command Fault) (reply : List ℕ) (new : PlayerState) → Replies old asked reply new → CameTo first old → CameTo first new
replies_on first old (Ok c) reply new h came = obeys_on first old c reply new h came
replies_on first old (Err f) reply new h came = same_on first old new h.1 came

may_on : (first : State) (old : PlayerState) (asked : Result Command Fault) (reply : List ℕ) (new : PlayerState) → MayReply old asked reply new → CameTo first old → CameTo first new
may_on first old asked reply new h came = elim h [ inl r ↦ same_on first old new r.1 came | inr r ↦ replies_on first old asked reply new r came ]

answers_on : (first : State) (old : PlayerState) (line reply : List ℕ) (new : PlayerState) → Answers old line reply new → CameTo first old → CameTo first new
answers_on first old line reply new h came = elim h [ inl r ↦ replies_on first old (command_of line) reply new r.1 came | inr r ↦ may_on first old (command_of line) reply new r.1 came ]

script_on : (first : State) (old : PlayerState) (lines : List (List ℕ)) (sent : List ℕ) (new : PlayerState) → IsScriptRun old lines sent new → CameTo first old → CameTo first new
script_on first old [] sent new h came = same_on first old new h.1 came
script_on first old (l ∷ ls) sent new h came = script_on first h.1 ls h.2 new h.4 (answers_on first old l h.0 h.1 h.3 came)

pub script_is_run : ScriptIsRun
script_is_run shape lines sent p h = script_on (opened shape).cache (opened shape) lines sent p h ([], start, refl)
