-- What is told of a crash is what a crash leaves.
use Rattle.std.proofs.Common.{◌≡◌, ◌<◌, ℕ, Bool, true, false, cond, not, List, [], ◌∷◌, map, length, Some, refl, sym, ap, ◌∙◌, inl, inr, arith}
use Rattle.std.specs.Prelude.{◌==◌, ◌&&◌, filter, replicate, if◌then◌else◌}
use Rattle.std.proofs.lemmas.List.{length-replicate, get_or-replicate}
use Rattle.std.proofs.lemmas.List.Elements.{All-replicate}
use Rattle.fst_types.specs.declared.place.Place.{Place}
use Rattle.fst_types.specs.declared.place.Place.TheVariants as place
use Rattle.fst_types.specs.declared.shape.Shape.{Shape}
use Rattle.fst_types.specs.State.{State, committed}
use Rattle.fst_types.specs.Tests.{is_among, is_at}
use Rattle.fst_types.specs.Crash.{crash}
use Rattle.fst_types.specs.Looks.{place_among, place_of}
use Rattle.fst_types.specs.Fold.{Write, fold}
use Rattle.fst_types.specs.Events.{Event, Reply}
use Rattle.fst_types.specs.Step.{Step, accepted, refused, Row, change, empty, gate, depend, seal, issue, land, stall, lose, retry, evict, forget, choose, pick, show, ask_place, ask_flight, ask_stalled, ask_stat, group}
use Rattle.fst_types.specs.Run.{ChangeMade, Call, Run, start, more, changes_in, made_after, on_disk_of, on_disk_or_in_flight_of}
use Rattle.fst_types.proofs.Finite.{In, Contains-from_In}
use Rattle.fst_types.proofs.Opened.{opening_is_committed}
use Rattle.fst_types.proofs.LandingOrder.{crash_is_fold, places_tell}
use Rattle.fst_player.specs.Script.{JobKept, opened, is_left_at, is_left, left_of}
use Rattle.fst_player.specs.Kept.{Came}
use Rattle.fst_player.specs.Law.{CrashIsTold}
use Rattle.fst_player.proofs.ScriptRuns.{script_is_run}
use Rattle.fst_types.proofs.Parts.{made_by, parts_row, grown_parts}
use Rattle.fst_player.proofs.LeftLemmas.{same_test}

row_size : (old new : State) (e : Event) (r : Reply) → Row old e r new → new.size ≡ old.size
row_size old new e r (change m) = ap (λ s. s.size) m.state
row_size old new e r (empty m) = ap (λ s. s.size) m.state
row_size old new e r (gate m) = ap (λ s. s.size) m.state
row_size old new e r (depend m) = ap (λ s. s.size) m.state
row_size old new e r (seal m) = ap (λ s. s.size) m.state
row_size old new e r (issue m) = ap (λ s. s.size) m.state
row_size old new e r (land m) = ap (λ s. s.size) m.state
row_size old new e r (stall m) = ap (λ s. s.size) m.state
row_size old new e r (lose m) = ap (λ s. s.size) m.state
row_size old new e r (retry m) = ap (λ s. s.size) m.state
row_size old new e r evict = refl
row_size old new e r (forget m) = ap (λ s. s.size) m.state
row_size old new e r (choose m) = refl
row_size old new e r (pick m) = refl
row_size old new e r show = refl
row_size old new e r ask_place = refl
row_size old new e r ask_flight = refl
row_size old new e r (ask_stalled m) = refl
row_size old new e r ask_stat = refl
row_size old new e r (group m) = (grown_parts old (made_by e) (made_after [] e r) new (parts_row old e r new m)).size

step_size : (old new : State) (e : Event) (r : Reply) → Step old e r new → new.size ≡ old.size
step_size old new e r (accepted n row) = row_size old new e r row
step_size old new e r (refused x) = refl

run_size : (first s : State) (calls : List Call) → Run first calls s → s.size ≡ first.size
run_size first s calls start = refl
run_size first s calls (more {calls = before} {s = middle} {e = e} {r = r} run step) = step_size middle s e r step ∙ run_size first middle before run

-- tests that agree on a list's elements
filter_agree : (p q : ChangeMade → Bool) (xs : List ChangeMade) → ((c : ChangeMade) → In xs c → p c ≡ q c) → filter p xs ≡ filter q xs
filter_agree p q [] h = refl
filter_agree p q (x ∷ xs) h = ap (λ t. cond t (x ∷ filter p xs) (filter p xs)) (h x (inl refl)) ∙ ap (λ l. cond (q x) (x ∷ l) l) (filter_agree p q xs (λ c i. h c (inr i)))

left_finished : (at : Place) → is_left_at true (Some at) ≡ not (is_at at place.Memory)
left_finished place.Memory = refl
left_finished place.Flight = refl
left_finished place.Disk = refl

left_unfinished : (at : Place) → is_left_at false (Some at) ≡ is_at at place.Disk
left_unfinished place.Memory = refl
left_unfinished place.Flight = refl
left_unfinished place.Disk = refl

-- the place of a change is told
abbrev Told : State → ChangeMade → Type 0
Told s c = place_of s.heads s.numbers c.number ≡ Some (place_among s.heads c.number)

left_writes : (s : State) (b : ℕ) (made : List ChangeMade) (finished : Bool) → ((c : ChangeMade) → In made c → Told s c)
    → map (λ (c : ChangeMade). c.write) (filter (λ c. c.block == b && is_left_at finished (place_of s.heads s.numbers c.number)) made)
    ≡ (if finished then on_disk_or_in_flight_of s b made else on_disk_of s b made)
left_writes s b made true told =
    ap (map (λ (c : ChangeMade). c.write)) (filter_agree (λ c. c.block == b && is_left_at true (place_of s.heads s.numbers c.number)) (λ c. c.block == b && not (is_at (place_among s.heads c.number) place.Memory)) made
    (λ c i. ap (λ x. c.block == b && x) (ap (is_left_at true) (told c i) ∙ left_finished (place_among s.heads c.number))))
left_writes s b made false told =
    ap (map (λ (c : ChangeMade). c.write)) (filter_agree (λ c. c.block == b && is_left_at false (place_of s.heads s.numbers c.number)) (λ c. c.block == b && is_at (place_among s.heads c.number) place.Disk) made
    (λ c i. ap (λ x. c.block == b && x) (ap (is_left_at false) (told c i) ∙ left_unfinished (place_among s.heads c.number))))

told_over : (shape : Shape) (calls : List Call) (s : State) (jobs : List JobKept) → Run (opened shape).cache calls s
    → (finish : List ℕ) (b : ℕ) → b < shape.blocks → left_of (record { cache = s; jobs = jobs; made = changes_in calls }) finish b ≡ crash s (is_among finish) b
told_over shape calls s jobs run finish b lt =
    let made = changes_in calls in
    let zero : List ℕ = replicate shape.size 0 in
    let zeros = replicate shape.blocks zero in
    let sized = All-replicate (λ (x : List ℕ). length x ≡ shape.size) shape.blocks zero (length-replicate shape.size 0) in
    let law = crash_is_fold shape.size shape.resident 0 0 zeros sized (omega arith) (omega arith) calls s run (is_among finish) b in
    let told = λ (c : ChangeMade) (i : In made c). places_tell shape.size shape.resident 0 0 zeros sized (omega arith) (omega arith) calls s run c (Contains-from_In made c i) in
    let base : committed (opened shape).cache b ≡ zero = opening_is_committed shape.size shape.resident 0 0 zeros b ∙ get_or-replicate shape.blocks b zero [] lt in
    let finished = is_among finish b in
    let left : List Write = if finished then on_disk_or_in_flight_of s b made else on_disk_of s b made in
    let same = filter_agree (λ c. c.block == b && is_left s finish c) (λ c. c.block == b && is_left_at finished (place_of s.heads s.numbers c.number)) made (λ c i. same_test s finish b c) in
    ap (λ n. fold (replicate n 0) (map (λ (c : ChangeMade). c.write) (filter (λ c. c.block == b && is_left s finish c) made))) (run_size (opened shape).cache s calls run)
    ∙ ap (fold zero) (ap (map (λ (c : ChangeMade). c.write)) same ∙ left_writes s b made finished told)
    ∙ sym (law ∙ ap (λ x. fold x left) base)

-- so of a cache that came from its opening
pub told_after : (shape : Shape) (s : State) (jobs : List JobKept) (made : List ChangeMade) → Came (opened shape).cache s made
    → (finish : List ℕ) (b : ℕ) → b < shape.blocks → left_of (record { cache = s; jobs = jobs; made = made }) finish b ≡ crash s (is_among finish) b
told_after shape s jobs made (calls, run, same) finish b lt = ap (λ m. left_of (record { cache = s; jobs = jobs; made = m }) finish b) same ∙ told_over shape calls s jobs run finish b lt

pub crash_is_told : CrashIsTold
crash_is_told shape lines sent p h = told_after shape p.cache p.jobs p.made (script_is_run shape lines sent p h)
