-- Each accepted call keeps what holds of the groups.
use Rattle.std.proofs.Common.{◌≡◌, ℕ, ◌≤◌, List, [], ◌∷◌, ◌++◌, length, map, Contains, sym, ap, subst, inl, inr, arith}
use Rattle.fst_types.specs.Limits.{max_groups}
use Rattle.fst_types.specs.Patches.{Empty}
use Rattle.fst_types.specs.Groups.{Group, IsGroupGate}
use Rattle.fst_types.specs.State.{State}
use Rattle.fst_types.specs.Refusals.{NoneHolds}
use Rattle.fst_types.specs.Order.{order}
use Rattle.fst_types.specs.Making.{fresh}
use Rattle.fst_types.specs.Writing.{landed}
use Rattle.fst_types.specs.Facts.{HeadsAreLawful, GroupsAreLawful}
use Rattle.fst_types.specs.Events.{Event, MakeChange, MakeEmpty, MakeGate, Depend, Seal, Issue, Settle, Retry, Evict, Forget, Choose, Pick, Show, AskPlace, AskFlight, AskStalled, AskStat, GroupNew, GroupAfter, GroupPatch, GroupClose, Reply}
use Rattle.fst_types.specs.Step.{Row, change, empty, gate, depend, seal, issue, land, stall, lose, retry, evict, forget, choose, pick, show, ask_place, ask_flight, ask_stalled, ask_stat, GroupRow, group_new, group_after, group_patch, group_close, group}
use Rattle.fst_types.proofs.Parts.{new_in_parts, after_in_parts, member_in_parts, close_in_parts}
use Rattle.fst_types.proofs.Heirs.{NoneShut, Heirs, heirs_self, heirs_pushed, heirs_cascade, heirs_launched, heirs_landed, heirs_forgotten, passes}
use Rattle.fst_types.proofs.GroupsHeld.{groups_same}
use Rattle.fst_types.proofs.Passing.{passes_gate, passes_change, passes_depend, passes_seal}
use Rattle.fst_types.proofs.GroupCalls.{groups_made, groups_put, groups_joined, groups_ended}

plain : (Shut : ℕ → Type 0) (old new : State) → Heirs Shut old.numbers old.heads new.heads → HeadsAreLawful old.heads old.numbers → HeadsAreLawful new.heads new.numbers → old.numbers ≤ new.numbers → new.groups ≡ old.groups
    → ((g : Group) → Contains old.groups g → (Shut g.head → ⊥) × (Shut g.tail → ⊥)) → GroupsAreLawful old.heads old.numbers old.groups → GroupsAreLawful new.heads new.numbers new.groups
plain Shut old new heirs H K rises same clear G = groups_same Shut old new (passes Shut old.heads new.heads old.numbers new.numbers H K heirs) rises same clear G

never : (groups : List Group) (g : Group) → Contains groups g → (⊥ → ⊥) × (⊥ → ⊥)
never groups g c = (λ x. x, λ x. x)

-- what the groups ask of a call
abbrev pub Spares : State → Event → Type 0
Spares s (Seal g) = IsGroupGate s.groups g → ⊥
Spares s (GroupNew share) = max_groups ≤ length s.groups → ⊥
Spares s _ = Unit {0}

-- it holds of a call that no rule refuses
pub spares : (s : State) (e : Event) → NoneHolds (order s e) → Spares s e
spares s (MakeChange share b at bytes after faulted) n = tt
spares s (MakeEmpty share after) n = tt
spares s (MakeGate share) n = tt
spares s (Depend g on) n = tt
spares s (Seal g) n = n.0
spares s (Issue b) n = tt
spares s (Settle t b image written) n = tt
spares s (Retry b) n = tt
spares s (Evict b) n = tt
spares s Forget n = tt
spares s (Choose b) n = tt
spares s Pick n = tt
spares s (Show b faulted) n = tt
spares s (AskPlace k) n = tt
spares s (AskFlight b) n = tt
spares s AskStalled n = tt
spares s AskStat n = tt
spares s (GroupNew share) n = n.1.0
spares s (GroupAfter k j) n = tt
spares s (GroupPatch share k b at bytes faulted) n = tt
spares s (GroupClose k) n = tt

groups_grouped : (old new : State) (e : Event) (r : Reply) → Spares old e → GroupRow old e r new → HeadsAreLawful old.heads old.numbers → GroupsAreLawful old.heads old.numbers old.groups → GroupsAreLawful new.heads new.numbers new.groups
groups_grouped old new e r n (group_new {number = number} m) H G = groups_made old number new (new_in_parts old number new m) n H G
groups_grouped old new e r n (group_after {n = k} {m = j} m) H G = groups_put old k j new (after_in_parts old k j new m) H G
groups_grouped old new e r n (group_patch {n = k} {b = b} {at = at} {number = number} {bytes = bytes} {grade = grade} m) H G = groups_joined old k b at bytes number grade new (member_in_parts old k b at bytes number grade new m) H G
groups_grouped old new e r n (group_close {n = k} m) H G = groups_ended old k new (close_in_parts old k new m) H G

pub groups_row : (old new : State) (e : Event) (r : Reply) → Spares old e → Row old e r new → HeadsAreLawful old.heads old.numbers → HeadsAreLawful new.heads new.numbers → GroupsAreLawful old.heads old.numbers old.groups → GroupsAreLawful new.heads new.numbers new.groups
groups_row old new e r n (change {b = b} {at = at} {number = number} {bytes = bytes} {after = after} {grade = grade} m) H K G =
    groups_same NoneShut old new (passes_change old b at bytes after number grade new m H) (let k = ap (λ s. s.numbers) m.state in omega (arith, k, m.row.next)) (ap (λ s. s.groups) m.state) (never old.groups) G
groups_row old new e r n (empty {number = number} m) H K G =
    plain NoneShut old new
    (heirs_cascade NoneShut old.numbers old.heads (old.heads ++ fresh number Empty m.row.dependencies ∷ []) new.heads (heirs_pushed old.numbers old.heads (fresh number Empty m.row.dependencies) m.row.next) m.row.cascade)
    H K (let k = ap (λ s. s.numbers) m.state in omega (arith, k, m.row.next)) (ap (λ s. s.groups) m.state) (never old.groups) G
groups_row old new e r n (gate {number = number} m) H K G =
    groups_same NoneShut old new (passes_gate old number new m H) (let k = ap (λ s. s.numbers) m.state in omega (arith, k, m.row.next)) (ap (λ s. s.groups) m.state) (never old.groups) G
groups_row old new e r n (depend {g = g} {on = on} m) H K G =
    groups_same NoneShut old new (passes_depend old g on new m H) (let k = ap (λ s. s.numbers) m.state in omega (arith, k)) (ap (λ s. s.groups) m.state) (never old.groups) G
groups_row old new e r n (seal {g = g} m) H K G =
    groups_same (λ k. k ≡ g) old new (passes_seal old g new m H) (let k = ap (λ s. s.numbers) m.state in omega (arith, k)) (ap (λ s. s.groups) m.state)
    (λ h in_groups. (λ e. n (h, in_groups, inl (sym e)), λ e. n (h, in_groups, inr (sym e)))) G
groups_row old new e r n (issue {b = b} m) H K G =
    plain NoneShut old new (subst (Heirs NoneShut old.numbers old.heads) (sym m.row) (heirs_launched old.numbers b m.chosen old.heads H m.writable m.choice))
    H K (let k = ap (λ s. s.numbers) m.state in omega (arith, k)) (ap (λ s. s.groups) m.state) (never old.groups) G
groups_row old new e r n (land {b = b} m) H K G =
    plain NoneShut old new
    (heirs_cascade NoneShut old.numbers old.heads (map (landed b) old.heads) new.heads (heirs_landed old.numbers b old.heads) m.row)
    H K (let k = ap (λ s. s.numbers) m.state in omega (arith, k)) (ap (λ s. s.groups) m.state) (never old.groups) G
groups_row old new e r n (stall m) H K G =
    plain NoneShut old new (subst (Heirs NoneShut old.numbers old.heads) (sym (ap (λ s. s.heads) m.state)) (heirs_self old.numbers old.heads))
    H K (let k = ap (λ s. s.numbers) m.state in omega (arith, k)) (ap (λ s. s.groups) m.state) (never old.groups) G
groups_row old new e r n (lose m) H K G =
    plain NoneShut old new (subst (Heirs NoneShut old.numbers old.heads) (sym (ap (λ s. s.heads) m.state)) (heirs_self old.numbers old.heads))
    H K (let k = ap (λ s. s.numbers) m.state in omega (arith, k)) (ap (λ s. s.groups) m.state) (never old.groups) G
groups_row old new e r n (retry m) H K G =
    plain NoneShut old new (subst (Heirs NoneShut old.numbers old.heads) (sym (ap (λ s. s.heads) m.state)) (heirs_self old.numbers old.heads))
    H K (let k = ap (λ s. s.numbers) m.state in omega (arith, k)) (ap (λ s. s.groups) m.state) (never old.groups) G
groups_row old new e r n evict H K G = G
groups_row old new e r n (forget m) H K G =
    plain NoneShut old new (subst (Heirs NoneShut old.numbers old.heads) (sym m.row.kept) (heirs_forgotten old.numbers old.heads))
    H K (let k = ap (λ s. s.numbers) m.state in omega (arith, k)) (ap (λ s. s.groups) m.state) (never old.groups) G
groups_row old new e r n (choose m) H K G = G
groups_row old new e r n (pick m) H K G = G
groups_row old new e r n show H K G = G
groups_row old new e r n ask_place H K G = G
groups_row old new e r n ask_flight H K G = G
groups_row old new e r n (ask_stalled m) H K G = G
groups_row old new e r n ask_stat H K G = G
groups_row old new e r n (group m) H K G = groups_grouped old new e r n m H G
