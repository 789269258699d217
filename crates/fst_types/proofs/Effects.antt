-- What each accepted call does to patches and blocks.
use Rattle.std.proofs.Common.{◌≡◌, ◌≢◌, ◌⊎◌, ℕ, ◌+◌, ◌≤◌, true, not, List, [], ◌∷◌, ◌++◌, length, map, filter, get_or, set, Contains, Option, Some, None, refl, sym, ap, subst, ◌∙◌, inl, inr, arith}
use Rattle.fst_types.specs.declared.place.Place.{Place}
use Rattle.fst_types.specs.declared.place.Place.TheVariants as place
use Rattle.fst_types.specs.Patches.{Empty, OpenGate, Patch}
use Rattle.fst_types.specs.Tests.{is_at, is_live, has_number}
use Rattle.fst_types.specs.Limits.{max_tries}
use Rattle.fst_types.specs.State.{State, BlockState, Flight, block_of, committed, flight_of, with_flight}
use Rattle.fst_types.specs.Bytes.{content_of}
use Rattle.fst_types.specs.Making.{fresh}
use Rattle.fst_types.specs.Gating.{gains, sealed}
use Rattle.fst_types.specs.Writing.{launched, landed, Lands}
use Rattle.fst_types.specs.Forgetting.{Forgets}
use Rattle.fst_types.specs.Facts.{ChangesFit, HeadsAreLawful}
use Rattle.fst_types.specs.Events.{Event, Reply}
use Rattle.fst_types.specs.Run.{ChangeMade, made_after}
use Rattle.fst_types.specs.Step.{Row, change, empty, gate, depend, seal, issue, land, stall, lose, retry, evict, forget, choose, pick, show, ask_place, ask_flight, ask_stalled, ask_stat, GroupRow, group_new, group_after, group_patch, group_close, group}
use Rattle.fst_types.proofs.Whole.{whole_forget}
use Rattle.fst_types.proofs.Finite.{In, In-from_Contains, Contains-from_In}
use Rattle.fst_types.proofs.Moves.{flight_out, put_at, out_block}
use Rattle.fst_types.proofs.Dropping.{filter_in, in_filter}
use Rattle.fst_types.proofs.Fits.{LieIn}
use Rattle.fst_types.proofs.Parts.{made_by, parts_row, grown_parts}
use Rattle.fst_types.proofs.Contents.{content_kept, has_in}
use Rattle.fst_types.proofs.Carries.{Never, IsFlying, Go, goes_self, go_self, go_then, go_mapped, go_cascade, goes_launched, goes_landed, goes_sealed, goes_gained, Carries, carries_all, carries_self, carries_added}
use Rattle.fst_types.proofs.Extends.{extends_carries, extends_parts, carries_changed}

carries_forgotten : (old new : State) (dropped : ℕ) → Forgets old dropped new → Carries Never [] old new
carries_forgotten old new dropped m = record {
  back = λ p h. inl (p, Contains-from_In old.heads p (filter_in is_live old.heads p (kept p h)).0, goes_self p);
  forth = λ o h live. (o, subst (λ hs. Contains hs o) (sym heads) (Contains-from_In (filter is_live old.heads) o (in_filter is_live old.heads o (In-from_Contains old.heads o h) (live_test o.place live))), goes_self o);
  bytes = λ p h few. ap (λ s. content_of s.contents p.number) (whole_forget old new dropped m) ∙ content_kept (has_number (filter is_live old.heads)) old.contents p.number (has_in (filter is_live old.heads) p (kept p h));
  each = λ c h. absurd h;
  few = omega arith;
  rises = let k = ap (λ s. s.numbers) m.state in omega (arith, k);
}
  where
    heads : new.heads ≡ filter is_live old.heads
    heads = m.row.kept

    kept : (p : Patch) → Contains new.heads p → In (filter is_live old.heads) p
    kept p h = In-from_Contains (filter is_live old.heads) p (subst (λ hs. Contains hs p) heads h)

    live_test : (x : Place) → (x ≡ place.Disk → ⊥) → not (is_at x place.Disk) ≡ true
    live_test place.Memory live = refl
    live_test place.Flight live = refl
    live_test place.Disk live = absurd (live refl)

-- what a step does to patches and blocks: nothing comes to the disk, or what was in flight of one block, whose image is committed
pub data Effect (added : List ChangeMade) (old new : State) : Type 0 where
  quiet : ((c : ℕ) → committed new c ≡ committed old c) → Carries Never added old new → Effect added old new
  landing : (b : ℕ) (f : Flight) → flight_of old b ≡ Some f → committed new b ≡ f.image → ((c : ℕ) → c ≢ b → committed new c ≡ committed old c) → Carries (IsFlying b) added old new → Effect added old new

-- what is committed, where no block or one block was replaced
abbrev committed_in : List BlockState → ℕ → List ℕ
committed_in blocks c = (get_or blocks c (record { committed = []; flight = None })).committed

committed_still : (old new : State) → new.blocks ≡ old.blocks → (c : ℕ) → committed new c ≡ committed old c
committed_still old new same c = ap (λ (bs : List BlockState). committed_in bs c) same

committed_put : (old new : State) (b : ℕ) (v : BlockState) → new.blocks ≡ set old.blocks b v → (c : ℕ) → ((c ≡ b) × (committed new c ≡ v.committed)) ⊎ ((committed new c ≡ committed old c) × ((c ≡ b) → length old.blocks ≤ b))
committed_put old new b v blocks c =
    let moved = ap (λ (bs : List BlockState). committed_in bs c) blocks in
    elim (put_at old.blocks b c v (record { committed = []; flight = None })) [
      | inl here ↦ inl (here.0, moved ∙ ap (λ (x : BlockState). x.committed) here.1)
      | inr away ↦ inr (moved ∙ ap (λ (x : BlockState). x.committed) away.0, away.1)
    ]

-- where a flight was replaced
committed_sent : (old new : State) (b : ℕ) (o : Option Flight) → new.blocks ≡ with_flight old b o → (c : ℕ) → committed new c ≡ committed old c
committed_sent old new b o blocks c =
    elim (committed_put old new b (record (block_of old b) { flight = o }) blocks c) [
      | inl here ↦ here.1 ∙ ap (committed old) (sym here.0)
      | inr away ↦ away.0
    ]

effect_landed : (old new : State) (ticket b : ℕ) (image : List ℕ) → Lands old ticket b image new → Effect [] old new
effect_landed old new ticket b image m =
    let f : Flight = flight_out ticket image m.out.failed in
    let v : BlockState = record { committed = image; flight = None } in
    let blocks = ap (λ s. s.blocks) m.state in
    let inside = out_block old ticket b image m.out in
    landing b f m.out.flight
    (elim (committed_put old new b v blocks b) [ inl here ↦ here.1 | inr away ↦ let past = away.1 refl in absurd (omega (arith, past, inside)) ])
    (λ c other. elim (committed_put old new b v blocks c) [ inl here ↦ absurd (other here.0) | inr away ↦ away.0 ])
    (carries_all (IsFlying b) old new (ap (λ s. s.contents) m.state) (ap (λ s. s.numbers) m.state)
    (go_then (IsFlying b) old.heads (map (landed b) old.heads) new.heads (go_mapped (IsFlying b) (landed b) old.heads (λ o h. goes_landed b o)) (go_cascade (map (landed b) old.heads) new.heads m.row)))

-- the changes that an accepted call adds
abbrev pub added_by : Event → Reply → List ChangeMade
added_by e r = made_after [] e r

-- the flight of b is replaced, and the patches stay
effect_sent : (old new : State) (b : ℕ) (f : Flight) → new.blocks ≡ with_flight old b (Some f) → new.contents ≡ old.contents → new.numbers ≡ old.numbers → new.heads ≡ old.heads → Effect [] old new
effect_sent old new b f blocks contents numbers heads =
    quiet (committed_sent old new b (Some f) blocks) (carries_all Never old new contents numbers (subst (Go Never old.heads) (sym heads) (go_self old.heads)))

pub effect_row : (old new : State) (e : Event) (r : Reply) → LieIn (length old.blocks) old.size (added_by e r) → Row old e r new → HeadsAreLawful old.heads old.numbers → ChangesFit old → Effect (added_by e r) old new
effect_row old new e r lie (change {b = b} {at = at} {number = number} {bytes = bytes} {after = after} {grade = grade} m) H F =
    quiet (committed_still old new (ap (λ s. s.blocks) m.state)) (carries_changed old new b at bytes after number grade m H F)
effect_row old new e r lie (empty {number = number} m) H F =
    quiet (committed_still old new (ap (λ s. s.blocks) m.state))
    (carries_added old new (fresh number Empty m.row.dependencies) refl m.row.next (ap (λ s. s.contents) m.state) (ap (λ s. s.numbers) m.state)
    (go_cascade (old.heads ++ fresh number Empty m.row.dependencies ∷ []) new.heads m.row.cascade))
effect_row old new e r lie (gate {number = number} m) H F =
    quiet (committed_still old new (ap (λ s. s.blocks) m.state))
    (carries_added old new (fresh number OpenGate []) refl m.row.next (ap (λ s. s.contents) m.state) (ap (λ s. s.numbers) m.state)
    (subst (Go Never (old.heads ++ fresh number OpenGate [] ∷ [])) (sym m.row.added) (go_self (old.heads ++ fresh number OpenGate [] ∷ []))))
effect_row old new e r lie (depend {g = g} m) H F =
    quiet (committed_still old new (ap (λ s. s.blocks) m.state))
    (carries_all Never old new (ap (λ s. s.contents) m.state) (ap (λ s. s.numbers) m.state)
    (subst (Go Never old.heads) (sym m.row.gained) (go_mapped Never (gains g m.row.names) old.heads (λ o h. goes_gained g m.row.names o))))
effect_row old new e r lie (seal {g = g} m) H F =
    quiet (committed_still old new (ap (λ s. s.blocks) m.state))
    (carries_all Never old new (ap (λ s. s.contents) m.state) (ap (λ s. s.numbers) m.state)
    (go_then Never old.heads (map (sealed g) old.heads) new.heads (go_mapped Never (sealed g) old.heads (goes_sealed old.heads new.heads old.numbers g H m.row.gate m.row.cascade)) (go_cascade (map (sealed g) old.heads) new.heads m.row.cascade)))
effect_row old new e r lie (issue {b = b} {ticket = ticket} {image = image} m) H F =
    quiet (committed_sent old new b (Some (flight_out ticket image 0)) (ap (λ s. s.blocks) m.state))
    (carries_all Never old new (ap (λ s. s.contents) m.state) (ap (λ s. s.numbers) m.state)
    (subst (Go Never old.heads) (sym m.row) (go_mapped Never (launched m.chosen) old.heads (goes_launched old.heads old.numbers b m.chosen H m.writable m.choice))))
effect_row old new e r lie (land {ticket = ticket} {b = b} {image = image} m) H F = effect_landed old new ticket b image m
effect_row old new e r lie (stall {ticket = ticket} {b = b} {image = image} m) H F =
    effect_sent old new b (record { ticket = ticket; image = image; stalled = true; failed = m.out.failed + 1 }) (ap (λ s. s.blocks) m.state) (ap (λ s. s.contents) m.state) (ap (λ s. s.numbers) m.state) (ap (λ s. s.heads) m.state)
effect_row old new e r lie (lose {ticket = ticket} {b = b} {image = image} m) H F =
    effect_sent old new b (flight_out ticket image max_tries) (ap (λ s. s.blocks) m.state) (ap (λ s. s.contents) m.state) (ap (λ s. s.numbers) m.state) (ap (λ s. s.heads) m.state)
effect_row old new e r lie (retry {b = b} {ticket = ticket} {image = image} m) H F =
    effect_sent old new b (flight_out ticket image m.failed) (ap (λ s. s.blocks) m.state) (ap (λ s. s.contents) m.state) (ap (λ s. s.numbers) m.state) (ap (λ s. s.heads) m.state)
effect_row old new e r lie evict H F = quiet (λ c. refl) (carries_self old)
effect_row old new e r lie (forget {dropped = dropped} m) H F = quiet (committed_still old new (ap (λ s. s.blocks) m.state)) (carries_forgotten old new dropped m)
effect_row old new e r lie (choose m) H F = quiet (λ c. refl) (carries_self old)
effect_row old new e r lie (pick m) H F = quiet (λ c. refl) (carries_self old)
effect_row old new e r lie show H F = quiet (λ c. refl) (carries_self old)
effect_row old new e r lie ask_place H F = quiet (λ c. refl) (carries_self old)
effect_row old new e r lie ask_flight H F = quiet (λ c. refl) (carries_self old)
effect_row old new e r lie (ask_stalled m) H F = quiet (λ c. refl) (carries_self old)
effect_row old new e r lie ask_stat H F = quiet (λ c. refl) (carries_self old)
effect_row old new e r lie (group m) H F =
    let parts = parts_row old e r new m in
    quiet (committed_still old new (grown_parts old (made_by e) (added_by e r) new parts).blocks)
    (extends_carries (added_by e r) old new (few e r m) (extends_parts old (made_by e) (added_by e r) new parts H lie F))
  where
    few : (e : Event) (r : Reply) → GroupRow old e r new → length (added_by e r) ≤ 1
    few e r (group_new m) = omega arith
    few e r (group_after m) = omega arith
    few e r (group_patch m) = omega arith
    few e r (group_close m) = omega arith
