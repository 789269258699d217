-- What each call leaves of what holds of the patches and their groups.
use Rattle.std.proofs.{Common.{◌≡◌, ℕ, List, [], ◌∷◌, map, replicate, false, Result, Ok, Err, Some, None, refl, sym, subst, inl, inr, arith}, lemmas.List.length-replicate}
use Rattle.std.specs.Prelude.{IfOk, IfErr, IfSome, OnErr, OnOk}
use Rattle.fst_types.specs.{Events.{Event, Reply, MakeChange, MakeEmpty, MakeGate, Depend, Seal, Forget}, Facts.HeadsAreLawful}
use Rattle.fst_types.specs.{Groups.{Group, IsGroupGate}, Making.{ChangeIsMade}, Refusals.{Rule, ◌when◌}}
use Rattle.fst_types.specs.{State.State, Step.{Row, change, empty, gate, depend, seal, forget}, Writing.landed, declared.fault.Fault.Fault, declared.grade.Grade.Grade}
use Rattle.fst_graph.specs.Known.{Known, Prepared, unprepared, with_groups, outside_groups, Foresees, Refuses, AddsGate, AddsEmpty, AddsChange, SealsGate, DependsGate, Launches, LandsBlock, MayLaunch, Forgets}
use Rattle.fst_graph.specs.Whole.{IsGrouped, IsUnclosed}
use Rattle.fst_types.proofs.{GroupsHeld.groups_same, GroupsKept.{Spares, groups_row}, Heads.heads_row}
use Rattle.fst_types.proofs.{Heirs.{NoneShut, Heirs, heirs_cascade, heirs_launched, heirs_landed, passes}, Issuing.heads_launched, Landing.heads_landed}
use Rattle.fst_types.specs.declared.fault.Fault.TheVariants as fault

-- a state with these patches and groups, and nothing else
abbrev pub state_at : Known → List Group → ℕ → List (ℕ × List ℕ) → State
state_at k gs made contents = record { size = 0; resident = 0; numbers = k.numbers; tickets = 0; made = made; heads = k.heads; contents = contents; blocks = []; groups = gs }

-- bytes for a change, which the patches do not have
abbrev pub some_bytes : ℕ → List ℕ
some_bytes len = replicate len 0

module _ (p q : Known) (gs : List Group) (G : IsGrouped p gs) where
  -- what a row of the definitions makes
  pub by_group : (now : List Group) (made : ℕ) (contents : List (ℕ × List ℕ)) (e : Event) (r : Reply) → q.prepared ≡ None → Spares (state_at p gs 0 []) e → Row (state_at p gs 0 []) e r (state_at q now made contents) → IsGrouped q now
  by_group now made contents e r none spares row =
      let old = state_at p gs 0 [] in
      let new = state_at q now made contents in
      let K = heads_row old new e r row G.lawful in
      record { lawful = K; grouped = groups_row old new e r spares row G.lawful K G.grouped; prepared = rw none tt }

  -- the same patches, with nothing prepared, or a change for no group
  pub grouped_unprepared : q ≡ unprepared p → IsGrouped q gs
  grouped_unprepared same = subst (λ k. IsGrouped k gs) (sym same) (record { lawful = G.lawful; grouped = G.grouped; prepared = tt })

  pub grouped_prepared : (ready : Prepared) → IfSome ready.group (IsUnclosed gs) → q ≡ record p { prepared = Some ready } → IsGrouped q gs
  grouped_prepared ready meant same = subst (λ k. IsGrouped k gs) (sym same) (record { lawful = G.lawful; grouped = G.grouped; prepared = meant })

  pub grouped_gate : (n : ℕ) → AddsGate p n q → IsGrouped q gs
  grouped_gate n a = by_group gs 1 [] (MakeGate 0) _ a.prepared tt (gate (record { row = a.row; state = rw a.numbers refl }))

  pub grouped_empty : (after : List ℕ) (n : ℕ) → AddsEmpty p after n q → IsGrouped q gs
  grouped_empty after n a = by_group gs 1 [] (MakeEmpty 0 after) _ a.prepared tt (empty (record { row = a.row; state = rw a.numbers refl }))

  pub grouped_seal : (g : ℕ) → (IsGroupGate gs g → ⊥) → SealsGate p g q → IsGrouped q gs
  grouped_seal g plain a = by_group gs 0 [] (Seal g) _ a.prepared plain (seal (record { row = a.row; state = rw a.numbers refl }))

  pub grouped_depend : (g : ℕ) (on : List ℕ) → DependsGate p g on q → IsGrouped q gs
  grouped_depend g on a = by_group gs 0 [] (Depend g on) _ a.prepared tt (depend (record { row = a.row; state = rw a.numbers refl }))

  pub grouped_change : (b at len n : ℕ) (after : List ℕ) (grade : Grade) → AddsChange p b at len after n grade q → IsGrouped q gs
  grouped_change b at len n after grade a =
      by_group gs 1 ((n, some_bytes len) ∷ []) (MakeChange 0 b at (some_bytes len) after false) _ a.prepared tt
      (change (record { row = subst (λ k. ChangeIsMade p.heads p.numbers b at k after n grade q.heads) (sym (length-replicate len 0)) a.row; state = rw a.numbers refl }))

  pub grouped_forget : (dropped : ℕ) → Forgets p dropped q → IsGrouped q gs
  grouped_forget dropped a = by_group gs 0 [] Forget _ a.prepared tt (forget (record { row = a.row; state = rw a.numbers refl }))

  -- no gate is sealed
  passed : HeadsAreLawful q.heads q.numbers → Heirs NoneShut p.numbers p.heads q.heads → q.numbers ≡ p.numbers → q.prepared ≡ None → IsGrouped q gs
  passed K heirs same none =
      let old = state_at p gs 0 [] in
      let new = state_at q gs 0 [] in
      record { lawful = K; grouped = groups_same NoneShut old new (passes NoneShut p.heads q.heads p.numbers q.numbers G.lawful K heirs) (omega (arith, same)) refl (λ g c. (λ x. x, λ x. x)) G.grouped; prepared = rw none tt }

  pub grouped_launch : (chosen : List ℕ) → MayLaunch p chosen → Launches p chosen q → IsGrouped q gs
  grouped_launch chosen may a =
      passed (rw (a.row, a.numbers) (heads_launched p.heads p.numbers may.block chosen G.lawful may.writable may.choice))
      (subst (Heirs NoneShut p.numbers p.heads) (sym a.row) (heirs_launched p.numbers may.block chosen p.heads G.lawful may.writable may.choice)) a.numbers a.prepared

  pub grouped_land : (b : ℕ) → LandsBlock p b q → IsGrouped q gs
  grouped_land b a =
      passed (rw a.numbers (heads_landed p.heads q.heads p.numbers b G.lawful a.row))
      (heirs_cascade NoneShut p.numbers p.heads (map (landed b) p.heads) q.heads (heirs_landed p.numbers b p.heads) a.row) a.numbers a.prepared

-- what comes of a call, whatever it answers
pub answered : {T E : Type 0} {P : T → Type 0} {Q R : Type 0} (r : Result T E) → IfOk r P → OnErr r Q → ((x : T) → P x → R) → (Q → R) → R
answered (Ok x) ok err f g = f x ok
answered (Err e) ok err f g = g err

pub fine : {T E : Type 0} {P Q : T → Type 0} (r : Result T E) → ((x : T) → P x → Q x) → IfOk r P → IfOk r Q
fine (Ok x) f ok = f x ok
fine (Err e) f ok = ok

pub failed : {T E : Type 0} {P Q : E → Type 0} (r : Result T E) → ((e : E) → P e → Q e) → IfErr r P → IfErr r Q
failed (Ok x) f err = err
failed (Err e) f err = f e err

pub on_ok : {T E P : Type 0} (r : Result T E) → P → OnOk r P
on_ok (Ok x) p = p
on_ok (Err e) p = tt

-- the groups stand beside what a call of the patches makes
module _ (p q : Known) (gs : List Group) where
  pub beside_empty : (after : List ℕ) (n : ℕ) → AddsEmpty p after n q → AddsEmpty (with_groups p gs) after n (with_groups q gs)
  beside_empty after n a = record { clear = a.clear; row = a.row; numbers = a.numbers; blocks = a.blocks; groups = refl; prepared = a.prepared }

  pub beside_depend : (g : ℕ) (on : List ℕ) → DependsGate p g on q → DependsGate (with_groups p gs) g on (with_groups q gs)
  beside_depend g on a = record { clear = a.clear; row = a.row; numbers = a.numbers; blocks = a.blocks; groups = refl; prepared = a.prepared }

  pub beside_change : (b at len n : ℕ) (after : List ℕ) (grade : Grade) → AddsChange p b at len after n grade q → AddsChange (with_groups p gs) b at len after n grade (with_groups q gs)
  beside_change b at len n after grade a =
      record { clear = a.clear; row = a.row; numbers = a.numbers; blocks = a.blocks; groups = refl; prepared = a.prepared }

pub beside_foreseen : (p : Known) (gs : List Group) (b at len n : ℕ) (after : List ℕ) (grade : Grade) → Foresees (unprepared p) b at len after n grade → Foresees (unprepared (with_groups p gs)) b at len after n grade
beside_foreseen p gs b at len n after grade x = (with_groups x.0 gs, beside_change (unprepared p) x.0 gs b at len n after grade x.1)

-- what may be launched does not speak of groups
pub may_launch : (p v : Known) (gs : List Group) (chosen : List ℕ) → with_groups p gs ≡ v → MayLaunch v chosen → MayLaunch p chosen
may_launch p v gs chosen same may =
    let m = subst (λ k. MayLaunch k chosen) (sym same) may in record { block = m.block; writable = m.writable; choice = m.choice }

-- where one rule does not hold the others decide
pub past_rule : (r : Rule) (rules : List Rule) (f : Fault) → (r.holds → ⊥) → Refuses rules f → Refuses (r ∷ rules) f
past_rule r rules f front refuses = elim refuses [ inl first ↦ inl (inr (front, first)) | inr memory ↦ inr ((front, memory.0), memory.1) ]

pub past_front : (gs : List Group) (g : ℕ) (rules : List Rule) (f : Fault) → (IsGroupGate gs g → ⊥) → Refuses rules f → Refuses (outside_groups gs g rules) f
past_front gs g rules f front refuses = past_rule (fault.NotGate when IsGroupGate gs g) rules f front refuses
