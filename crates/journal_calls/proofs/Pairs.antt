-- What making two groups, one after the other, leaves.
use Rattle.std.proofs.Common.{◌≡◌, ℕ, ◌+◌, ◌<◌, ◌≤◌, cond, eqb, [], ◌∷◌, ◌++◌, Contains, refl, sym, ap, ◌∙◌, subst, arith, inl, inr}
use Rattle.std.specs.Prelude.{Result, Ok, Err, MatchResult}
use Rattle.std.proofs.lemmas.Bool.{cases_lt}
use Rattle.std.proofs.lemmas.List.Elements.{Contains-append_right}
use Rattle.fst_types.specs.Limits.{max_number}
use Rattle.fst_types.specs.Groups.{Group, with_group}
use Rattle.fst_types.specs.State.{State}
use Rattle.fst_types.specs.Grouping.{new_group}
use Rattle.fst_types.specs.declared.fault.Fault.{Fault}
use Rattle.fst_types.specs.Events.{Event, Reply, GroupNew, GroupAfter, GroupClose, Made, Accepted, Refused}
use Rattle.fst_types.specs.Step.{Step, accepted, group, group_new, group_after}
use Rattle.fst_types.proofs.Numbers.{equal_test}
use Rattle.fst_types.proofs.Finite.{In-map, In-from_Contains, Contains-from_In}
use Rattle.journal_calls.specs.Pairing.{IsPair, FailsToPair, at_first, at_second, at_last}

-- the number of a new group is not the last
pub tail_has_number : (old new : State) (share n : ℕ) → Step old (GroupNew share) (Made n) new → n + 1 ≤ max_number
tail_has_number old new share n (accepted none (group (group_new m))) =
    let room : old.numbers + 1 < max_number = elim (cases_lt (old.numbers + 1) max_number) [ inl lt ↦ lt | inr past ↦ absurd (none.1.1.1.0 past) ] in
    omega (arith, room, m.row.head.next)

-- a new group is among the groups
pub made_group : (old new : State) (share n : ℕ) → Step old (GroupNew share) (Made n) new → Contains new.groups (new_group n)
made_group old new share n (accepted none (group (group_new m))) =
    subst (λ gs. Contains gs (new_group n)) (sym (ap (λ (s : State). s.groups) m.state)) (Contains-append_right old.groups (new_group n ∷ []) (new_group n) (0, omega arith, refl))

-- and put after another, it is the second of two
pub put_after : (old new : State) (n m : ℕ) → Contains old.groups (new_group n) → Step old (GroupAfter n m) Accepted new → IsPair new.groups m n (n + 1)
put_after old new n m there (accepted none (group (group_after p))) =
    let put : Group → Group = λ g. record g { after = g.after ++ m ∷ [] } in
    let each : Group → Group = λ g. cond (eqb g.head n) (put g) g in
    let is : each (new_group n) ≡ put (new_group n) = ap (λ t. cond t (put (new_group n)) (new_group n)) (equal_test n n refl) in
    let among = Contains-from_In (with_group old.groups n put) (put (new_group n)) (In-map each old.groups (new_group n) (put (new_group n)) (In-from_Contains old.groups (new_group n) there) is) in
    record {
      group = put (new_group n);
      named = (subst (λ gs. Contains gs (put (new_group n))) (sym (ap (λ (s : State). s.groups) p.state)) among, refl);
      after = (0, omega arith, refl);
      behind = refl;
    }

-- a call answered something
abbrev Answers : {T : Type 0} → Result T Fault → State → Event → State → Type 0
Answers r s e t = MatchResult r (λ _. Step s e Accepted t) (λ f. Step s e (Refused f) t)

answer_of : {T : Type 0} (r : Result T Fault) {s t : State} {e : Event} → Answers r s e t → (reply : Reply) × Step s e reply t
answer_of (Ok x) step = (Accepted, step)
answer_of (Err f) step = (Refused f, step)

-- the first group can not be made
pub fails_first : (old new : State) (share left : ℕ) (why : Fault) → left ≡ share → Step old (GroupNew share) (Refused why) new → FailsToPair old share why new left
fails_first old new share left why same step = subst (λ (n : ℕ). FailsToPair old share why new n) (sym same) (at_first step)

-- the second can not, and the first is closed
pub fails_second : (old one two new : State) (share risen left first : ℕ) (why : Fault) {T : Type 0} (r : Result T Fault) → risen ≡ share + 2 → left ≡ risen
    → Step old (GroupNew share) (Made first) one → Step one (GroupNew risen) (Refused why) two → Answers r two (GroupClose first) new → FailsToPair old share why new left
fails_second old one two new share risen left first why r up same makes refused closed =
    subst (λ (n : ℕ). FailsToPair old share why new n) (sym (same ∙ up))
    (at_second makes (subst (λ (n : ℕ). Step one (GroupNew n) (Refused why) two) up refused) (answer_of r closed).1)

-- the second can not be put after the first, and both are closed
pub fails_last : (old one two three four new : State) (share risen left first second : ℕ) (why : Fault) {T : Type 0} (r q : Result T Fault) → risen ≡ share + 2 → left ≡ risen + 2
    → Step old (GroupNew share) (Made first) one → Step one (GroupNew risen) (Made second) two → Step two (GroupAfter second first) (Refused why) three
    → Answers r three (GroupClose second) four → Answers q four (GroupClose first) new → FailsToPair old share why new left
fails_last old one two three four new share risen left first second why r q up more makes too refused closed closed' =
    let all : left ≡ share + 4 = omega (arith, up, more) in
    subst (λ (n : ℕ). FailsToPair old share why new n) (sym all)
    (at_last makes (subst (λ (n : ℕ). Step one (GroupNew n) (Made second) two) up too) refused (answer_of r closed).1 (answer_of q closed').1)
