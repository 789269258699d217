-- A new change among all patches whose heads are kept is one among those that are not forgotten.
use Rattle.std.proofs.Common.{◌≡◌, ◌≤◌, ◌↔◌, ℕ, Bool, false, List, [], ◌∷◌, ◌++◌, Contains, refl, sym, ap, subst, ◌∙◌, inl, inr, arith}
use Rattle.fst_types.specs.{Facts.{IsOnDiskWithAll, SparseAreLawful}, Grades.IsGradedHard, Making.fresh}
use Rattle.fst_types.specs.{Patches.{Change, Patch, IsLive}, declared.grade.Grade.Grade}
use Rattle.fst_heads.specs.Rows.{IsDependency, IsSparseRow, IsTouched}
use Rattle.fst_types.proofs.Adding.{on_disk_with_all_added}
use Rattle.fst_heads.proofs.Touching.{touch_parts}
use Rattle.fst_graph.specs.{Remembered.{remembered, AreGone}, Sparse.SparseChangeIsMade}
use Rattle.fst_graph.proofs.{Remembered.{was, kept, live_number, depends_is, blocked, need_was, need_is, reaches, returns, remembered_pushed}, WholeChange.rule_same}
use Rattle.fst_graph.proofs.RememberedRows.{gone_pushed}

module _ (gone : ℕ → Bool) (heads : List Patch) (G : AreGone gone heads) where
  abbrev S : List Patch
  S = remembered gone heads

  pub touched_live : (b at len n : ℕ) (t : IsTouched heads b at len n) → IsLive t.patch
  touched_live b at len n t = (touch_parts b at len t.patch.kind t.patch.place t.shares).0

  pub touched : (b at len n : ℕ) → IsTouched S b at len n ↔ IsTouched heads b at len n
  touched b at len n = (
    λ t. record { patch = t.patch; head = (was gone heads t.patch t.head).0; numbered = t.numbered; shares = t.shares },
    λ t. record { patch = t.patch; head = kept gone heads G t.patch t.head (touched_live b at len n t); numbered = t.numbered; shares = t.shares },
  )

  pub dependency : (names : List ℕ) (b at len n : ℕ) → IsDependency S names b at len n ↔ IsDependency heads names b at len n
  dependency names b at len n = (
    λ d. elim d [ inl k ↦ inl ((live_number gone heads G n).0 k.0, k.1) | inr t ↦ inr ((touched b at len n).0 t) ],
    λ d. elim d [ inl k ↦ inl ((live_number gone heads G n).1 k.0, k.1) | inr t ↦ inr ((touched b at len n).1 t) ],
  )

  pub sparse_row : IsOnDiskWithAll heads → (names : List ℕ) (b at len : ℕ) (row : List ℕ) → IsSparseRow heads names b at len row → IsSparseRow S names b at len row
  sparse_row D names b at len row r = record {
    rising = r.rising;
    only = λ n c. (dependency names b at len n).1 (r.only n c);
    named = λ n l c. r.named n ((live_number gone heads G n).0 l) c;
    above = λ n t.
        let u = (touched b at len n).0 t in
        elim (r.above n u) [
          | inl c ↦ inl c
          | inr m ↦ inr (m.0, m.1, depends_is gone heads G D m.0 n m.2 (record { patch = u.patch; head = u.head; numbered = u.numbered; live = touched_live b at len n u }))
        ];
  }

-- a new change
module _ (gone : ℕ → Bool) (heads : List Patch) (numbers : ℕ) (G : AreGone gone heads) (H : SparseAreLawful heads numbers) (b at len : ℕ) (after : List ℕ) (number : ℕ) (grade : Grade) (later : List Patch)
    (e : gone number ≡ false) (s : SparseChangeIsMade heads numbers b at len after number grade later) where
  abbrev D : IsOnDiskWithAll heads
  D = H.on_disk_with_all

  abbrev made : Patch
  made = fresh number (Change b at len grade) s.dependencies

  named : (q : ℕ) → Contains s.dependencies q → q ≤ numbers
  named q c = elim (s.sparse.only q c) [
    | inl k ↦ let few = (H.one_place_each.numbered k.0.patch k.0.head).1 in omega (arith, few, k.0.numbered)
    | inr t ↦ let few = (H.one_place_each.numbered t.patch t.head).1 in omega (arith, few, t.numbered)
  ]

  pub disk_changed : IsOnDiskWithAll later
  disk_changed = subst IsOnDiskWithAll (sym s.added) (on_disk_with_all_added heads numbers H made s.next named refl (λ f. f))

  pub gone_changed : AreGone gone later
  gone_changed = subst (AreGone gone) (sym s.added) (gone_pushed gone heads made G e)

  graded : IsGradedHard heads later b number ↔ IsGradedHard (remembered gone heads) (remembered gone later) b number
  graded = (
    λ h. record {
      free = λ k. h.free ((blocked gone later gone_changed disk_changed number).0 k);
      straight = λ r. h.straight ((returns gone later gone_changed disk_changed b number).0 r);
      open_ended = λ q c n live off r. h.open_ended q c (need_was gone later number q c n) live off ((reaches gone heads G D c b).0 r);
    },
    λ h. record {
      free = λ k. h.free ((blocked gone later gone_changed disk_changed number).1 k);
      straight = λ r. h.straight ((returns gone later gone_changed disk_changed b number).1 r);
      open_ended = λ q c n live off r. h.open_ended q c (need_is gone later gone_changed disk_changed number q c n live) live off ((reaches gone heads G D c b).1 r);
    },
  )

  pub changed_remembered : SparseChangeIsMade (remembered gone heads) numbers b at len after number grade (remembered gone later)
  changed_remembered = record {
    next = s.next;
    dependencies = s.dependencies;
    sparse = sparse_row gone heads G D after b at len s.dependencies s.sparse;
    added = ap (remembered gone) s.added ∙ remembered_pushed gone heads made e;
    graded = rule_same grade (IsGradedHard heads later b number) (IsGradedHard (remembered gone heads) (remembered gone later) b number) graded s.graded;
  }

-- the same where the new patch is given
pub pushed_remembered : (gone : ℕ → Bool) (heads : List Patch) (numbers : ℕ) → AreGone gone heads → SparseAreLawful heads numbers → (b at len : ℕ) (after : List ℕ) (number : ℕ) (grade : Grade) (p : Patch)
    → gone number ≡ false → p.number ≡ number → SparseChangeIsMade heads numbers b at len after number grade (heads ++ p ∷ []) → SparseChangeIsMade (remembered gone heads) numbers b at len after number grade (remembered gone heads ++ p ∷ [])
pushed_remembered gone heads numbers G H b at len after number grade p e same s =
    subst (SparseChangeIsMade (remembered gone heads) numbers b at len after number grade) (remembered_pushed gone heads p (subst (λ n. gone n ≡ false) (sym same) e))
    (changed_remembered gone heads numbers G H b at len after number grade (heads ++ p ∷ []) e s)
