-- What the head with the number of a gate tells, and what a seal that is refused says of it.
use Rattle.std.proofs.Common.{◌≡◌, ℕ, Bool, true, false, List, get_or, Contains, sym, ap, subst, ◌∙◌, inl, inr, Result, Ok, Err, None, refl, arith}
use Rattle.std.specs.Prelude.{OnOk, OnErr, IfErr}
use Rattle.fst_types.specs.{Facts.SparseAreLawful, Gates.{IsGiven, IsOpenNumber, IsSealedNumber, IsGateNumber}, Groups.Group, Order.seal_order}
use Rattle.fst_types.specs.{Patches.{Kind, Change, Empty, Patch, OpenGate, SealedGate}, Refusals.IsFirst, declared.fault.Fault.Fault, declared.grade.Grade.Grade}
use Rattle.fst_heads.specs.{Heads.{IsRising, patch_of, patches_of}, Indices.{HasIndex, HasNone}, Nodes.{is_forgotten_in, node_of, nodes_of}, declared.head.Head.Head}
use Rattle.fst_graph.specs.{Grouping.SealsIfOpen, Known.{Known, unprepared, SealsGate}, Remembered.remembered}
use Rattle.fst_types.proofs.Crash.{same_number}
use Rattle.fst_heads.proofs.{Flagged.forgotten_here, PendingAt.node_in, Indices.{any_default, index_in, none_index, patch_at, patch_index, patch_is, rising_map}}
use Rattle.fst_graph.proofs.{Remembered.{is, sealed_is, sealed_was, was}, RememberedRules.seal_gone}
use Rattle.fst_types.specs.declared.fault.Fault.TheVariants as fault

pub not_both : (k : Kind) → k ≡ OpenGate → k ≡ SealedGate → ⊥
not_both k a b = cc

no_open : (b at len : ℕ) (grade : Grade) (k : Kind) → k ≡ Change b at len grade → k ≡ OpenGate → ⊥
no_open b at len grade k e f = cc

no_seal : (b at len : ℕ) (grade : Grade) (k : Kind) → k ≡ Change b at len grade → k ≡ SealedGate → ⊥
no_seal b at len grade k e f = cc

empty_open : (k : Kind) → k ≡ Empty → k ≡ OpenGate → ⊥
empty_open k e f = cc

empty_seal : (k : Kind) → k ≡ Empty → k ≡ SealedGate → ⊥
empty_seal k e f = cc

module _ (heads : List Head) (rising : IsRising heads) (g s : ℕ) (d : Head) (index : HasIndex heads g s) where
  abbrev p : Patch
  p = patch_of (get_or heads s d)

  is_it : (x : Patch) → Contains (patches_of heads) x → x.number ≡ g → p ≡ x
  is_it x c e = patch_is heads x s d rising c (subst (λ n. HasIndex heads n s) (sym e) index)

  pub open_number : p.kind ≡ OpenGate → IsOpenNumber (patches_of heads) g
  open_number e = record { patch = p; head = patch_at heads s d index.0; numbered = index.1 d; is_open = e }

  pub sealed_number : p.kind ≡ SealedGate → IsSealedNumber (patches_of heads) g
  sealed_number e = record { patch = p; head = patch_at heads s d index.0; numbered = index.1 d; is_sealed = e }

  pub open_kind : IsOpenNumber (patches_of heads) g → p.kind ≡ OpenGate
  open_kind o = ap (λ x. x.kind) (is_it o.patch o.head o.numbered) ∙ o.is_open

  pub sealed_kind : IsSealedNumber (patches_of heads) g → p.kind ≡ SealedGate
  sealed_kind o = ap (λ x. x.kind) (is_it o.patch o.head o.numbered) ∙ o.is_sealed

  pub other_gate : (p.kind ≡ OpenGate → ⊥) → (p.kind ≡ SealedGate → ⊥) → IsGateNumber (patches_of heads) g → ⊥
  other_gate not_open not_sealed gate = elim gate [ inl o ↦ not_open (open_kind o) | inr o ↦ not_sealed (sealed_kind o) ]

  pub change_no_gate : (b at len : ℕ) (grade : Grade) → p.kind ≡ Change b at len grade → IsGateNumber (patches_of heads) g → ⊥
  change_no_gate b at len grade e = other_gate (no_open b at len grade p.kind e) (no_seal b at len grade p.kind e)

  pub empty_no_gate : p.kind ≡ Empty → IsGateNumber (patches_of heads) g → ⊥
  empty_no_gate e = other_gate (empty_open p.kind e) (empty_seal p.kind e)

pub no_gate : (heads : List Head) (g : ℕ) → HasNone heads g → IsGateNumber (patches_of heads) g → ⊥
no_gate heads g none gate = elim gate [
  | inl o ↦ let t = index_in heads o.patch o.head in none_index heads g t.0 none (subst (λ n. HasIndex heads n t.0) o.numbered (patch_index heads o.patch t.0 t.1 t.2))
  | inr o ↦ let t = index_in heads o.patch o.head in none_index heads g t.0 none (subst (λ n. HasIndex heads n t.0) o.numbered (patch_index heads o.patch t.0 t.1 t.2))
]

-- the gates that are not forgotten, of whose heads some are marked
module _ (heads : List Head) (rising : IsRising heads) (numbers g : ℕ) where
  abbrev gone : ℕ → Bool
  gone = is_forgotten_in (nodes_of heads)

  abbrev S : List Patch
  S = remembered gone (patches_of heads)

  -- what its head tells
  mark_told : (s : ℕ) (d : Head) → HasIndex heads g s → gone g ≡ (get_or heads s d).forgotten
  mark_told s d index =
      let h = get_or heads s d in
      let there = node_in heads s h index.0 (any_default heads s d h index.0) in
      let rise = rising_map node_of heads (λ h. h.number) (λ x. x.patch.number) (λ h. refl) rising in
      ap gone (sym (index.1 d)) ∙ forgotten_here (nodes_of heads) (node_of h) rise there

  gate_was : IsGateNumber S g → IsGateNumber (patches_of heads) g
  gate_was k = elim k [
    | inl o ↦ inl (record { patch = o.patch; head = (was gone (patches_of heads) o.patch o.head).0; numbered = o.numbered; is_open = o.is_open })
    | inr s ↦ inr (sealed_was gone (patches_of heads) g s)
  ]

  -- where no head has the number
  pub none_kept : HasNone heads g → IsGateNumber S g → ⊥
  none_kept none k = no_gate heads g none (gate_was k)

  -- its head is marked
  pub marked_kept : (s : ℕ) (d : Head) → HasIndex heads g s → (get_or heads s d).forgotten ≡ true → IsGiven numbers g → IsFirst (seal_order S numbers g) fault.NotGate
  marked_kept s d index t given = seal_gone gone (patches_of heads) numbers g (mark_told s d index ∙ t) given

  -- its head is not
  module _ (s : ℕ) (d : Head) (index : HasIndex heads g s) (f : (get_or heads s d).forgotten ≡ false) where
    known : gone g ≡ false
    known = mark_told s d index ∙ f

    gate_is : IsGateNumber (patches_of heads) g → IsGateNumber S g
    gate_is k = elim k [
      | inl o ↦ inl (record { patch = o.patch; head = is gone (patches_of heads) o.patch o.head (subst (λ m. gone m ≡ false) (sym o.numbered) known); numbered = o.numbered; is_open = o.is_open })
      | inr s ↦ inr (sealed_is gone (patches_of heads) g known s)
    ]

    pub sealed_kept : IsGiven numbers g → IsSealedNumber (patches_of heads) g → IsFirst (seal_order S numbers g) fault.Sealed
    sealed_kept given k = inr ((λ n. n given), inr ((λ n. n (gate_is (inr k))), inl (sealed_is gone (patches_of heads) g known k, refl)))

    pub other_kept : IsGiven numbers g → (IsGateNumber (patches_of heads) g → ⊥) → IsFirst (seal_order S numbers g) fault.NotGate
    other_kept given none = inr ((λ n. n given), inl ((λ k. none (gate_was k)), refl))

-- an open gate is not sealed
pub open_not_sealed : (heads : List Patch) (numbers g : ℕ) → SparseAreLawful heads numbers → IsOpenNumber heads g → IsSealedNumber heads g → ⊥
open_not_sealed heads numbers g H o s =
    let same = same_number heads o.patch s.patch H.one_place_each.rising o.head s.head (o.numbered ∙ sym s.numbered) in
    not_both o.patch.kind o.is_open (ap (λ (p : Patch). p.kind) same ∙ s.is_sealed)

-- so `seal` refuses only what is no open gate
pub refused_closed : (heads : List Patch) (numbers g : ℕ) (f : Fault) → SparseAreLawful heads numbers → IsFirst (seal_order heads numbers g) f → IsOpenNumber heads g → ⊥
refused_closed heads numbers g f H first gate =
    elim first [
      | inl unknown ↦ unknown.0 (let k = H.one_place_each.numbered gate.patch gate.head in let e = gate.numbered in (omega (arith, k.0, e), omega (arith, k.1, e)))
      | inr more ↦ elim more.1 [
        | inl none ↦ none.0 (inl gate)
        | inr past ↦ elim past.1 [ inl shut ↦ open_not_sealed heads numbers g H gate shut.0 | inr end ↦ absurd end.1 ]
      ]
    ]

-- what a graph knows, field by field
pub known_is : (q : Known) (numbers blocks : ℕ) (groups : List Group) → q.numbers ≡ numbers → q.blocks ≡ blocks → q.groups ≡ groups → q.prepared ≡ None
    → q ≡ record { heads = q.heads; numbers = numbers; blocks = blocks; groups = groups; prepared = None }
known_is q numbers blocks groups a b c d = rw (a, b, c, d) refl

pub seals_if_open : (p q : Known) (g : ℕ) → SparseAreLawful p.heads p.numbers → {T : Type 0} (r : Result T Fault) → OnOk r (SealsGate p g q) → IfErr r (IsFirst (seal_order p.heads p.numbers g)) → OnErr r (q ≡ unprepared p) → SealsIfOpen p g q
seals_if_open p q g H (Ok x) ok refused same = record { row = inl ok.row; state = known_is q p.numbers p.blocks p.groups ok.numbers ok.blocks ok.groups ok.prepared }
seals_if_open p q g H (Err f) ok refused same = record { row = inr (refused_closed p.heads p.numbers g f H refused, ap (λ k. k.heads) same); state = rw same refl }
