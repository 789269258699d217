-- Landing order does not matter: over a run from an opening, blocks are the opening bytes with the run's changes over them.
use Rattle.std.proofs.Common.{◌≡◌, ℕ, ◌<◌, Bool, true, false, cond, not, map, List, [], ◌∷◌, ◌++◌, Contains, Option, Some, None, refl, sym, ap, subst, ◌∙◌, inl, inr}
use Rattle.std.specs.Prelude.{◌==◌, ◌&&◌, AllPairs}
use Rattle.std.proofs.lemmas.Bool.{cases_eq}
use Rattle.std.specs.List.{cons_option}
use Rattle.std.proofs.lemmas.List.{append-nil}
use Rattle.std.proofs.lemmas.List.Elements.{filter_map-append}
use Rattle.fst_types.specs.declared.place.Place.TheVariants as place
use Rattle.fst_types.specs.declared.fault.Fault.{Fault}
use Rattle.fst_types.specs.Tests.{is_at}
use Rattle.fst_types.specs.Looks.{place_among, place_of}
use Rattle.fst_types.specs.Fold.{fold}
use Rattle.fst_types.specs.State.{State, Flight, committed, flight_of}
use Rattle.fst_types.specs.Dependencies.{IsOnDisk}
use Rattle.fst_types.specs.Facts.{IsLawful}
use Rattle.fst_types.specs.Events.{Event, MakeChange, MakeEmpty, MakeGate, Depend, Seal, Issue, Settle, Retry, Evict, Forget, Choose, Pick, Show, AskPlace, AskFlight, AskStalled, AskStat, GroupNew, GroupAfter, GroupPatch, GroupClose, Reply, Refused}
use Rattle.fst_types.specs.Step.{Step, accepted, refused}
use Rattle.fst_types.specs.Laws.{OverEachRun, RunKeepsLawful, RunsStayLawful, MadeInOrder, CommittedIsFold, ImageIsFold, CrashIsFold, RunLandsInOrder, PlacesTell}
use Rattle.fst_types.specs.Opening.{opening}
use Rattle.fst_types.specs.Crash.{crash}
use Rattle.fst_types.proofs.Bounds.{step_keeps_lawful}
use Rattle.fst_types.proofs.Opened.{opening_is_lawful}
use Rattle.fst_types.specs.Run.{ChangeMade, ShareByte, Call, Run, start, more, change_made, changes_in, with_change, made_after, on_disk_of, on_disk_or_in_flight_of}
use Rattle.fst_types.proofs.Finite.{In, In-from_Contains}
use Rattle.fst_types.proofs.Ascends.{from_ascends, filter_same}
use Rattle.fst_types.proofs.Carries.{Never, IsFlying}
use Rattle.fst_types.proofs.Fits.{lie_row}
use Rattle.fst_types.proofs.Effects.{Effect, quiet, landing, added_by, effect_row}
use Rattle.fst_types.proofs.Numbers.{given_told, among_told, one_block}
use Rattle.fst_types.proofs.Along.{is_down, down_of, is_out, out_of, Along, along, down_same, down_landed}
use Rattle.fst_types.proofs.CrashAlong.{crash_folded, image_folded}

along_effect : (first old new : State) (made added : List ChangeMade) → Effect added old new → IsLawful new → Along first old made → Along first new (made ++ added)
along_effect first old new made added (quiet same C) lawful A =
    along Never first old new made added C lawful A
    (λ b. same b ∙ (A.folded b ∙ ap (fold (committed first b)) (sym (down_same Never first old new made added C lawful A b (λ c on o m late. late)))))
along_effect first old new made added (landing b f flight image others C) lawful A =
    along (IsFlying b) first old new made added C lawful A
    (λ k. elim (cases_eq k b) [
      | inl here ↦
          subst (λ j. committed new j ≡ fold (committed first j) (down_of new j (made ++ added))) (sym here)
          (image
          ∙ (image_folded first old made A b f flight
          ∙ ap (fold (committed first b)) (sym (down_landed (IsFlying b) first old new made added C lawful A b (λ o on flying. (on, flying)) (λ o late. late.1)))))
      | inr other ↦
          others k other
          ∙ (A.folded k
          ∙ ap (fold (committed first k)) (sym (down_same (IsFlying b) first old new made added C lawful A k (λ c on o m late. other (sym on ∙ one_block o c.block b m.block late.0)))))
    ])

-- the changes made so far are those before and the one added
made_row : (e : Event) (r : Reply) (made : List ChangeMade) → made_after made e r ≡ made ++ added_by e r
made_row e r made = one (change_made e r)
  where
    one : (o : Option ChangeMade) → with_change made o ≡ made ++ with_change [] o
    one None = sym (append-nil made)
    one (Some c) = refl

-- the changes of the calls, with one call more
pub changes_more : (calls : List Call) (e : Event) (r : Reply) → changes_in (calls ++ record { event = e; reply = r } ∷ []) ≡ made_after (changes_in calls) e r
changes_more calls e r = filter_map-append (λ c. change_made c.event c.reply) calls (record { event = e; reply = r } ∷ []) ∙ one (change_made e r)
  where
    one : (o : Option ChangeMade) → changes_in calls ++ cons_option o [] ≡ with_change (changes_in calls) o
    one None = append-nil (changes_in calls)
    one (Some c) = refl

none_made : (e : Event) (f : Fault) (made : List ChangeMade) → made_after made e (Refused f) ≡ made
none_made (MakeChange share b at bytes after faulted) f made = refl
none_made (MakeEmpty share after) f made = refl
none_made (MakeGate share) f made = refl
none_made (Depend g on) f made = refl
none_made (Seal g) f made = refl
none_made (Issue b) f made = refl
none_made (Settle t b image written) f made = refl
none_made (Retry b) f made = refl
none_made (Evict b) f made = refl
none_made Forget f made = refl
none_made (Choose b) f made = refl
none_made Pick f made = refl
none_made (Show b faulted) f made = refl
none_made (AskPlace n) f made = refl
none_made (AskFlight b) f made = refl
none_made AskStalled f made = refl
none_made AskStat f made = refl
none_made (GroupNew share) f made = refl
none_made (GroupAfter n m) f made = refl
none_made (GroupPatch share n b at bytes faulted) f made = refl
none_made (GroupClose n) f made = refl

along_step : (first old new : State) (e : Event) (r : Reply) (made : List ChangeMade) → Step old e r new → Along first old made → Along first new (made_after made e r)
along_step first old new e r made (accepted n row) A =
    subst (Along first new) (sym (made_row e r made))
    (along_effect first old new made (added_by e r) (effect_row old new e r (lie_row old new e r n row) row A.lawful.heads A.lawful.changes_fit) (step_keeps_lawful old new e r A.lawful (accepted n row)) A)
along_step first old new e r made (refused {fault = f} refusal) A = subst (Along first old) (sym (none_made e f made)) A

along_start : (first : State) → IsLawful first → first.heads ≡ [] → Along first first []
along_start first lawful none = record {
  lawful = lawful;
  ascends = tt;
  given = λ c i. absurd i;
  kept = λ c p i. absurd i;
  known = λ p b h. absurd (subst (λ hs. In hs p) none (In-from_Contains first.heads p h));
  fits = λ c i. absurd i;
  order = λ c d i. absurd i;
  folded = λ b. refl;
}

along_run : (first s : State) (calls : List Call) → IsLawful first → first.heads ≡ [] → Run first calls s → Along first s (changes_in calls)
along_run first s calls lawful none start = along_start first lawful none
along_run first s calls lawful none (more {calls = before} {s = middle} {e = e} {r = r} run step) =
    subst (Along first s) (sym (changes_more before e r)) (along_step first middle s e r (changes_in before) step (along_run first middle before lawful none run))

pub run_keeps_lawful : RunKeepsLawful
run_keeps_lawful first s calls lawful start = lawful
run_keeps_lawful first s calls lawful (more {calls = before} {s = middle} {e = e} {r = r} run step) = step_keeps_lawful middle s e r (run_keeps_lawful first middle before lawful run) step

-- what holds along each run holds over each run from an opening
over_each : (P : State → List ChangeMade → State → Type 0) → ((first s : State) (made : List ChangeMade) → Along first s made → P first made s) → OverEachRun P
over_each P holds size resident numbers tickets bytes sized few less calls s run =
    holds (opening size resident numbers tickets bytes) s (changes_in calls) (along_run (opening size resident numbers tickets bytes) s calls (opening_is_lawful size resident numbers tickets bytes sized few less) refl run)

pub runs_stay_lawful : RunsStayLawful
runs_stay_lawful = over_each (λ first made s. IsLawful s) (λ first s made A. A.lawful)

pub made_in_order : MadeInOrder
made_in_order = over_each (λ first made s. AllPairs (λ c d. c.number < d.number) made) (λ first s made A. from_ascends (λ c. c.number) made A.ascends)

not_not : (x : Bool) → not (not x) ≡ x
not_not true = refl
not_not false = refl

-- the place of a change says whether it is on disk, and whether on disk or in flight
down_told : (first s : State) (made : List ChangeMade) → Along first s made → (b : ℕ) → down_of s b made ≡ on_disk_of s b made
down_told first s made A b =
    ap (map (λ (c : ChangeMade). c.write)) (filter_same (is_down s b) (λ c. c.block == b && is_at (place_among s.heads c.number) place.Disk) made
    (λ c i. ap (λ x. c.block == b && x) (ap not (among_told s.heads c.number A.lawful.heads.one_place_each.rising).0 ∙ not_not (is_at (place_among s.heads c.number) place.Disk))))

out_told : (first s : State) (made : List ChangeMade) → Along first s made → (b : ℕ) → out_of s b made ≡ on_disk_or_in_flight_of s b made
out_told first s made A b =
    ap (map (λ (c : ChangeMade). c.write)) (filter_same (is_out s b) (λ c. c.block == b && not (is_at (place_among s.heads c.number) place.Memory)) made
    (λ c i. ap (λ x. c.block == b && not x) (among_told s.heads c.number A.lawful.heads.one_place_each.rising).1))

pub committed_is_fold : CommittedIsFold
committed_is_fold = over_each (λ first made s. (b : ℕ) → committed s b ≡ fold (committed first b) (on_disk_of s b made)) (λ first s made A b. A.folded b ∙ ap (fold (committed first b)) (down_told first s made A b))

pub image_is_fold : ImageIsFold
image_is_fold =
    over_each (λ first made s. (b : ℕ) (f : Flight) → flight_of s b ≡ Some f → f.image ≡ fold (committed first b) (on_disk_or_in_flight_of s b made))
    (λ first s made A b f flight. image_folded first s made A b f flight ∙ ap (fold (committed first b)) (out_told first s made A b))

pub crash_is_fold : CrashIsFold
crash_is_fold =
    over_each (λ first made s. (finished : ℕ → Bool) (b : ℕ) → crash s finished b ≡ fold (committed first b) (cond (finished b) (on_disk_or_in_flight_of s b made) (on_disk_of s b made)))
    (λ first s made A finished b. crash_folded first s made A finished b ∙ ap (fold (committed first b)) (ap (λ ws. cond (finished b) ws (down_of s b made)) (out_told first s made A b) ∙ ap (λ ws. cond (finished b) (on_disk_or_in_flight_of s b made) ws) (down_told first s made A b)))

pub places_tell : PlacesTell
places_tell =
    over_each (λ first made s. (c : ChangeMade) → Contains made c → place_of s.heads s.numbers c.number ≡ Some (place_among s.heads c.number))
    (λ first s made A c i. let g = A.given c (In-from_Contains made c i) in given_told s.heads s.numbers c.number g.0 g.1)

pub run_lands_in_order : RunLandsInOrder
run_lands_in_order =
    over_each (λ first made s. (c d : ChangeMade) → Contains made c → Contains made d → c.number < d.number → ShareByte c d → IsOnDisk s.heads d.number → IsOnDisk s.heads c.number)
    (λ first s made A c d i j. A.order c d (In-from_Contains made c i) (In-from_Contains made d j))
