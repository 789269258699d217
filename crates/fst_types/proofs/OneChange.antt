-- What a call's definition fixes of a new change: what it depends on, and its grade.
use Rattle.std.proofs.Common.{◌≡◌, ◌⊎◌, ℕ, ◌≤◌, ◌+◌, List, [], ◌∷◌, ◌++◌, Contains, refl, sym, ap, subst, ◌∙◌, inl, inr, arith}
use Rattle.std.proofs.lemmas.List.Elements.{Contains-push_cases}
use Rattle.fst_types.specs.declared.grade.Grade.{Grade}
use Rattle.fst_types.specs.declared.grade.Grade.TheVariants as grades
use Rattle.fst_types.specs.Closure.{one, join}
use Rattle.fst_types.specs.Lists.{Lists}
use Rattle.fst_types.specs.Patches.{Change, Patch, IsOpenGate, block_of_kind, at_of, len_of}
use Rattle.fst_types.specs.Dependencies.{DirectlyOn, DependsOn, Needs, IsLiveNumber}
use Rattle.fst_types.specs.Overlaps.{IsOverlapped}
use Rattle.fst_types.specs.Grades.{IsGradedHard, FollowsRule}
use Rattle.fst_types.specs.Facts.{HeadsAreLawful}
use Rattle.fst_types.specs.Making.{fresh, ChangeIsMade}
use Rattle.fst_types.specs.Events.{MadeChange}
use Rattle.fst_types.proofs.Finite.{In-from_Contains, Contains-from_In, In-append_left, In-append_right}
use Rattle.fst_types.proofs.NewChange.{IsWithin, old_head, need_small}
use Rattle.fst_types.proofs.OneList.{lists_same}

-- a patch of another grade at the end depends on the same
module _ (heads : List Patch) (n : ℕ) (within : IsWithin heads n) (p q : Patch) (next : q.number ≡ n + 1) (named : (x : ℕ) → Contains q.dependencies x → x ≤ n)
    (number : p.number ≡ q.number) (dependencies : p.dependencies ≡ q.dependencies) (closed : IsOpenGate q → ⊥) where
  direct_over : (a c : ℕ) → DirectlyOn (heads ++ q ∷ []) a c → DirectlyOn (heads ++ p ∷ []) a c
  direct_over a c d =
      elim (Contains-push_cases heads q d.patch d.head) [
        | inl o ↦ record { patch = d.patch; head = Contains-from_In (heads ++ p ∷ []) d.patch (In-append_left heads (p ∷ []) d.patch (In-from_Contains heads d.patch o)); numbered = d.numbered; named = d.named }
        | inr e ↦ record {
          patch = p;
          head = Contains-from_In (heads ++ p ∷ []) p (In-append_right heads (p ∷ []) p (inl refl));
          numbered = number ∙ (ap (λ x. x.number) e ∙ d.numbered);
          named = subst (λ ds. Contains ds c) (sym dependencies) (subst (λ x. Contains x.dependencies c) (sym e) d.named);
        }
      ]

  depends_over : (a c : ℕ) → DependsOn (heads ++ q ∷ []) a c → DependsOn (heads ++ p ∷ []) a c
  depends_over a c (one d) = one (direct_over a c d)
  depends_over a c (join {q = m} d e) = join (depends_over a m d) (depends_over m c e)

  head_over : (x : Patch) → Contains heads x → Contains (heads ++ p ∷ []) x
  head_over x o = Contains-from_In (heads ++ p ∷ []) x (In-append_left heads (p ∷ []) x (In-from_Contains heads x o))

  needs_over : (a : ℕ) (x : Patch) (c : ℕ) → Needs (heads ++ q ∷ []) a x c → Needs (heads ++ p ∷ []) a x c
  needs_over a x c d = record { head = head_over x (old_head heads n within q next named x d.head (need_small heads n within q next named a x c d)); change = d.change; depends = depends_over a x.number d.depends }

  hard_over : (b : ℕ) → IsGradedHard heads (heads ++ p ∷ []) b p.number → IsGradedHard heads (heads ++ q ∷ []) b q.number
  hard_over b hard = record {
    free = λ k. elim (Contains-push_cases heads q k.gate k.head) [
      | inl o ↦ hard.free (record { gate = k.gate; head = head_over k.gate o; is_open = k.is_open; depends = subst (λ a. DependsOn (heads ++ p ∷ []) a k.gate.number) (sym number) (depends_over q.number k.gate.number k.depends) })
      | inr e ↦ closed (subst IsOpenGate (sym e) k.is_open)
    ];
    straight = λ r. hard.straight (record {
      away = r.away;
      back = r.back;
      away_on = r.away_on;
      off = r.off;
      away_needed = subst (λ a. Needs (heads ++ p ∷ []) a r.away r.away_on) (sym number) (needs_over q.number r.away r.away_on r.away_needed);
      away_live = r.away_live;
      back_needed = needs_over r.away.number r.back b r.back_needed;
      back_live = r.back_live;
    });
    open_ended = λ x c d live off reaches. hard.open_ended x c (subst (λ a. Needs (heads ++ p ∷ []) a x c) (sym number) (needs_over q.number x c d)) live off reaches;
  }

grade_same : (g h : Grade) (P Q : Type 0) → FollowsRule g P → FollowsRule h Q → (P → Q) → (Q → P) → g ≡ h
grade_same grades.Hard grades.Hard P Q a b f k = refl
grade_same grades.Hard grades.Soft P Q a b f k = absurd (b (f a))
grade_same grades.Soft grades.Hard P Q a b f k = absurd (a (k b))
grade_same grades.Soft grades.Soft P Q a b f k = refl

pub changes_fixed : (heads later also : List Patch) (numbers b at len : ℕ) (after : List ℕ) (number other : ℕ) (g h : Grade) → HeadsAreLawful heads numbers
    → ChangeIsMade heads numbers b at len after number g later → ChangeIsMade heads numbers b at len after other h also → (MadeChange number g ≡ MadeChange other h) × (later ≡ also)
changes_fixed heads later also numbers b at len after number other g h H m k = (
  ap (λ x. MadeChange x g) n ∙ ap (λ x. MadeChange other x) same_grade,
  m.added
      ∙ (ap (λ x. heads ++ fresh x (Change b at len g) m.dependencies ∷ []) n
      ∙ (ap (λ x. heads ++ fresh other (Change b at len x) m.dependencies ∷ []) same_grade ∙ (ap (λ ds. heads ++ fresh other (Change b at len h) ds ∷ []) same_dependencies ∙ sym k.added))),
)
  where
    n : number ≡ other
    n = m.next ∙ sym k.next

    p : Patch
    p = fresh number (Change b at len g) m.dependencies

    q : Patch
    q = fresh other (Change b at len h) k.dependencies

    over : (p q : Patch) → block_of_kind q.kind ≡ block_of_kind p.kind → at_of q.kind ≡ at_of p.kind → len_of q.kind ≡ len_of p.kind → (x : ℕ) → IsOverlapped heads p x → IsOverlapped heads q x
    over p q e f l x o = record {
      patch = o.patch;
      head = o.head;
      numbered = o.numbered;
      live = o.live;
      overlaps = record {
        block = o.overlaps.block;
        first = o.overlaps.first;
        second = e ∙ o.overlaps.second;
        starts_before = let s = o.overlaps.starts_before in omega (arith, s, f, l);
        ends_after = let s = o.overlaps.ends_after in omega (arith, s, f, l);
      };
    }

    same_dependencies : m.dependencies ≡ k.dependencies
    same_dependencies =
        lists_same _ _ m.dependencies k.dependencies m.depends k.depends
        (λ x e. elim e [ inl l ↦ inl l | inr o ↦ inr (over p q refl refl refl x o) ])
        (λ x e. elim e [ inl l ↦ inl l | inr o ↦ inr (over q p refl refl refl x o) ])

    within : IsWithin heads numbers
    within = λ x h. ((H.one_place_each.numbered x h).1, λ q c. H.one_place_each.named x q h c)

    given : (p : Patch) → Lists (λ x. (IsLiveNumber heads x × Contains after x) ⊎ IsOverlapped heads p x) p.dependencies → (x : ℕ) → Contains p.dependencies x → x ≤ numbers
    given p ds x c = elim (ds.only x c) [
      | inl l ↦ let w = (H.one_place_each.numbered l.0.patch l.0.head).1 in omega (arith, w, l.0.numbered)
      | inr o ↦ let w = (H.one_place_each.numbered o.patch o.head).1 in omega (arith, w, o.numbered)
    ]

    shut : (p : Patch) (g : Grade) → p.kind ≡ Change b at len g → IsOpenGate p → ⊥
    shut p g e f = cc

    m_rule : FollowsRule g (IsGradedHard heads (heads ++ p ∷ []) b number)
    m_rule = subst (λ hs. FollowsRule g (IsGradedHard heads hs b number)) m.added m.graded

    k_rule : FollowsRule h (IsGradedHard heads (heads ++ q ∷ []) b other)
    k_rule = subst (λ hs. FollowsRule h (IsGradedHard heads hs b other)) k.added k.graded

    same_grade : g ≡ h
    same_grade =
        grade_same g h _ _ m_rule k_rule
        (hard_over heads numbers within p q k.next (given q k.depends) n same_dependencies (shut q h refl) b)
        (hard_over heads numbers within q p m.next (given p m.depends) (sym n) (sym same_dependencies) (shut p g refl) b)
