-- What is prepared.
use Rattle.std.proofs.lemmas.Option.{same_Some}
use Rattle.std.proofs.{Common.{◌≡◌, ◌<◌, ℕ, Bool, ◌+◌, ◌++◌, true, false, ◌&&◌, List, [], ◌∷◌, Option, Some, None, option_map, is_some, subst, refl, sym, ap, ◌∙◌, eqb}, lemmas.Bool.false≢true, lemmas.Bool.Decides.Decides-eqb}
use Rattle.std.specs.Bool.{Decides}
use Rattle.fst_types.specs.{Grades.FollowsRule, Order.make_order, Patches.Patch, Refusals.NoneHolds, declared.grade.Grade.Grade, declared.number.PatchNo.PatchNo, declared.span.Span.Span}
use Rattle.fst_heads.specs.{Grading.MayBeHard, Heads.patches_of, Keeps.Keeps, Names.numbers_of, Rows.IsSparseRow, declared.head.Head.Head}
use Rattle.fst_walks.specs.Telling.{IsTold}
use Rattle.fst_graph.specs.{Known.{Prepared, prepared_for, member_for}, Ready.{change_of, prepared_of, IsReady, IsMemberReady, IsReadyFor, MayBePut}, Sparse.{AddsSparse, SparseChangeIsMade}}
use Rattle.fst_graph.specs.{declared.prepared.Gates.Gates, declared.prepared.Prepared.Prepared as Stored}
use Rattle.fst_types.proofs.Numbers.{both}
use Rattle.fst_heads.proofs.{Touching.graded_change}
use Rattle.fst_types.specs.declared.grade.Grade.TheVariants as grade

-- what is graded hard may be hard
pub hard_may : (g : Grade) (P : Type 0) → FollowsRule g P → Some g ≡ Some grade.Hard → P
hard_may grade.Hard P follows e = follows
hard_may grade.Soft P follows e = absurd (cc)

-- a name is its number
pub name_decides : (a b : PatchNo) → Decides (eqb a.0 b.0) (a ≡ b)
name_decides a b = (λ e. ap (λ n. record { 0 = n }) ((Decides-eqb a.0 b.0).0 e), λ e. (Decides-eqb a.0 b.0).1 (ap (λ n. n.0) e))

-- a span is where it starts and how long it is
pub same_span : (a b : Span) → a.at ≡ b.at → a.len ≡ b.len → a ≡ b
same_span a b at len = ap (λ n. record { at = n; len = a.len }) at ∙ ap (λ n. record { at = b.at; len = n }) len

pub span_tested : (a b : Span) → (eqb a.at b.at && eqb a.len b.len) ≡ true → a ≡ b
span_tested a b e =
    let k = both (eqb a.at b.at) (eqb a.len b.len) e in
    same_span a b ((Decides-eqb a.at b.at).0 k.0) ((Decides-eqb a.len b.len).0 k.1)

pub same_names : (xs ys : List PatchNo) → numbers_of xs ≡ numbers_of ys → xs ≡ ys
same_names [] [] e = refl
same_names [] (y ∷ ys) e = absurd (cc)
same_names (x ∷ xs) [] e = absurd (cc)
same_names (x ∷ xs) (y ∷ ys) e =
    let first : x.0 ≡ y.0 = cc in
    let rest : numbers_of xs ≡ numbers_of ys = cc in
    let name : x ≡ y = ap (λ n. record { 0 = n }) first in
    let names = same_names xs ys rest in cc

-- whether there are gates
pub no_gates_left : (g : Option Gates) → is_some g ≡ false → g ≡ None
no_gates_left None e = refl
no_gates_left (Some x) e = absurd (false≢true (sym e))

-- without a head there are no gates
pub no_gates : (g : Option Gates) → option_map (λ x. x.head) g ≡ None → g ≡ None
no_gates None e = refl
no_gates (Some x) e = cc

-- what is kept is seen as what is prepared for its arguments
module _ (numbers : ℕ) (p : Stored) (b : ℕ) (span : Span) (after : List PatchNo) where
  pub seen_for : (p.block ≡ b) × (p.span ≡ span) × (p.names.items ≡ after) × (p.gates ≡ None) → Some (prepared_of numbers p) ≡ Some (prepared_for b span.at span.len (numbers_of after) (numbers + 1) p.told.grade)
  seen_for h = rw (← h.0, ← h.1, ← h.2, h.3) refl

  pub for_seen : (number : ℕ) (grade : Grade) → Some (prepared_of numbers p) ≡ Some (prepared_for b span.at span.len (numbers_of after) number grade) → (p.block ≡ b) × (p.span ≡ span) × (p.names.items ≡ after) × (p.gates ≡ None)
  for_seen number grade e =
      let same : prepared_of numbers p ≡ prepared_for b span.at span.len (numbers_of after) number grade = cc in
      let at : p.span.at ≡ span.at = ap (λ q. q.at) same in
      let len : p.span.len ≡ span.len = ap (λ q. q.len) same in
      (ap (λ q. q.block) same, same_span p.span span at len, same_names p.names.items after (ap (λ q. q.after) same), no_gates p.gates (ap (λ q. q.group) same))

-- what was found for a change, as the heads were read
pub ready_found : {heads read : List Head} {kept : List Patch} {numbers blocks b : ℕ} {marks : List Bool} {names : List PatchNo} {span : Span} → Keeps (patches_of heads) numbers blocks marks → (p : Stored) → p.names.items ≡ names → p.block ≡ b → p.span ≡ span → b < blocks → NoneHolds (make_order kept numbers (numbers_of names)) → read ≡ heads → IsSparseRow (patches_of read) (numbers_of names) b span.at span.len p.dependencies.items
    → IsTold (patches_of read) b p.dependencies.items (MayBeHard (patches_of read) None b p.dependencies.items) p.told → IsReady (patches_of heads) kept numbers blocks p
ready_found {heads} {kept = kept} {numbers = n} {blocks = blocks} {b = b} {marks = marks} {names = names} {span = span} K p named on at inside clear read depends told =
    let old = patches_of heads in
    let row = p.dependencies.items in
    let sparse : IsSparseRow old (numbers_of p.names.items) p.block p.span.at p.span.len row = rw (named, on, at) (subst (λ hs. IsSparseRow (patches_of hs) (numbers_of names) b span.at span.len row) read depends) in
    let known : IsTold old p.block row (MayBeHard old None p.block row) p.told = rw on (subst (λ hs. IsTold (patches_of hs) b row (MayBeHard (patches_of hs) None b row) p.told) read told) in
    record {
      clear = rw named clear;
      inside = rw on inside;
      depends = sparse;
      graded = graded_change old n blocks marks K p.block p.span.at p.span.len (numbers_of p.names.items) p.told.grade row sparse known.graded;
      back = known.back;
    }

-- and as contracts see it
pub found_as : (p : Stored) (numbers : ℕ) {b : ℕ} {span : Span} {names : List PatchNo} → p.block ≡ b → p.span ≡ span → p.names.items ≡ names → p.gates ≡ None → prepared_of numbers p ≡ prepared_for b span.at span.len (numbers_of names) (numbers + 1) p.told.grade
found_as p numbers on at named alone = rw (← on, ← at, ← named, alone) refl

pub member_found_as : (p : Stored) (numbers : ℕ) (gates : Gates) {b : ℕ} {span : Span} → p.block ≡ b → p.span ≡ span → numbers_of p.names.items ≡ gates.head ∷ [] → p.gates ≡ Some gates → prepared_of numbers p ≡ member_for gates.head b span.at span.len (numbers + 1) p.told.grade
member_found_as p numbers gates on at named grouped = rw (← on, ← at, named, grouped) refl

-- put down, it is the change that was foreseen
pub ready_made : {heads kept : List Patch} {numbers blocks : ℕ} {p : Stored} → IsReady heads kept numbers blocks p → SparseChangeIsMade heads numbers p.block p.span.at p.span.len (numbers_of p.names.items) (numbers + 1) p.told.grade (heads ++ change_of numbers p ∷ [])
ready_made {p = p} R = record { next = refl; dependencies = p.dependencies.items; sparse = R.depends; added = refl; graded = R.graded }

-- also among the patches that are not forgotten, where it is that change among them
pub ready_adds : {heads kept : List Patch} {numbers blocks : ℕ} {p : Stored} → IsReady heads kept numbers blocks p → SparseChangeIsMade kept numbers p.block p.span.at p.span.len (numbers_of p.names.items) (numbers + 1) p.told.grade (kept ++ change_of numbers p ∷ [])
    → AddsSparse (record { heads = kept; numbers = numbers; blocks = blocks; groups = []; prepared = None })
    p.block p.span.at p.span.len (numbers_of p.names.items) (numbers + 1) p.told.grade (record { heads = kept ++ change_of numbers p ∷ []; numbers = numbers + 1; blocks = blocks; groups = []; prepared = None })
ready_adds R row = record { clear = R.clear; row = row; numbers = refl; blocks = refl; groups = refl; prepared = refl }

-- what is kept is seen as what is prepared for a group
module _ (numbers : ℕ) (p : Stored) (gates : Gates) (heads : List Patch) {standing : List Patch} (n blocks : ℕ) (ready : IsMemberReady heads standing n blocks gates p) (kept : p.gates ≡ Some gates) (head b : ℕ) (span : Span) where
  pub seen_member : (p.block ≡ b) × (p.span ≡ span) × (option_map (λ (g : Gates). g.head) p.gates ≡ Some head) → Some (prepared_of numbers p) ≡ Some (member_for head b span.at span.len (numbers + 1) p.told.grade)
  seen_member h =
      let own : gates.head ≡ head = same_Some gates.head head (sym (ap (option_map (λ (g : Gates). g.head)) kept) ∙ h.2) in
      rw (ready.names, own, ← h.0, ← h.1, h.2) refl

pub member_seen : (numbers : ℕ) (p : Stored) (head b : ℕ) (span : Span) (number : ℕ) (grade : Grade) → Some (prepared_of numbers p) ≡ Some (member_for head b span.at span.len number grade) → (p.block ≡ b) × (p.span ≡ span) × (option_map (λ (g : Gates). g.head) p.gates ≡ Some head)
member_seen numbers p head b span number grade e =
    let same : prepared_of numbers p ≡ member_for head b span.at span.len number grade = cc in
    (ap (λ q. q.block) same, same_span p.span span (ap (λ q. q.at) same) (ap (λ q. q.len) same), ap (λ q. q.group) same)

-- what is prepared for the group with that head has the gates of that group
pub head_told : (o : Option Stored) (n : ℕ) (q : Prepared) (head : ℕ) (p : Stored) → option_map (prepared_of n) o ≡ Some q → q.group ≡ Some head → o ≡ Some p → option_map (λ (g : Gates). g.head) p.gates ≡ Some head
head_told None n q head p seen named kept = absurd (cc)
head_told (Some r) n q head p seen named kept =
    let same : p ≡ r = cc in
    let shown : prepared_of n r ≡ q = cc in
    ap (λ (x : Stored). option_map (λ (g : Gates). g.head) x.gates) same ∙ (ap (λ x. x.group) shown ∙ named)

-- of a group
pub ready_member : (numbers : ℕ) (p : Stored) (head : ℕ) (heads kept : List Patch) (n blocks : ℕ) → option_map (λ (g : Gates). g.head) p.gates ≡ Some head → MayBePut heads kept n blocks p → (gates : Gates) × (p.gates ≡ Some gates) × IsMemberReady heads kept n blocks gates p
ready_member numbers p head heads kept n blocks named ready = by_gates p.gates named ready
  where
    by_gates : (g : Option Gates) → option_map (λ (x : Gates). x.head) g ≡ Some head → IsReadyFor g heads kept n blocks p → (gates : Gates) × (g ≡ Some gates) × IsMemberReady heads kept n blocks gates p
    by_gates None e r = absurd (cc)
    by_gates (Some gates) e r = (gates, refl, r)

pub member_put : (p : Stored) (gates : Gates) (heads : List Patch) {standing : List Patch} (n blocks : ℕ) → p.gates ≡ Some gates → IsMemberReady heads standing n blocks gates p → MayBePut heads standing n blocks p
member_put p gates heads {standing} n blocks kept ready = subst (λ g. IsReadyFor g heads standing n blocks p) (sym kept) ready
