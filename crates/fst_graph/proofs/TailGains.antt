-- The tail of a group gains the change that was made for it.
use Rattle.std.proofs.lemmas.Option.{same_Some}
use Rattle.std.proofs.Common.{◌≡◌, ◌⊎◌, ◌+◌, ◌≤◌, ◌++◌, ℕ, Bool, List, [], ◌∷◌, Option, Some, None, IfSome, option_map, Contains, refl, sym, ap, subst, ◌∙◌, inl, inr, arith}
use Rattle.std.proofs.lemmas.List.Elements.{Contains-append_left, Contains-push, Contains-push_cases}
use Rattle.fst_types.specs.{Closure.{one, join}, Dependencies.{DirectlyOn, DependsOn, IsLiveNumber}, Facts.SparseAreLawful, Gates.IsOpenNumber}
use Rattle.fst_types.specs.{Lists.Lists, Order.{depend_order, room_order, NamesUnknown, NamesAbove}, Patches.Patch, Refusals.NoneHolds}
use Rattle.fst_heads.specs.{Keeps.Keeps, Names.numbers_of}
use Rattle.fst_graph.specs.{Known.Prepared, Membering.OverlapReaches, Ready.{prepared_of, change_of, IsReady, IsMemberReady, IsReadyFor, MayBePut}}
use Rattle.fst_graph.specs.{declared.prepared.Gates.Gates, declared.prepared.Prepared.Prepared as Stored}
use Rattle.fst_types.proofs.{NewChange.IsWithin, SmallStates.only_in}
use Rattle.fst_heads.proofs.{Graded.depends_under, Touching.touched_overlaps}
use Rattle.fst_walks.proofs.Overlapped.{touched_no_gate}
use Rattle.fst_graph.proofs.{GateIndex.open_not_sealed, Readied.{head_told, ready_member}}
use Rattle.fst_types.specs.declared.grade.Grade.TheVariants as grade
use Rattle.fst_types.proofs.Numbers.{memory_disk}

-- what is prepared is for the group with those gates
pub head_same : (o : Option Stored) (n : ℕ) (q : Prepared) (head : ℕ) (p : Stored) (gates : Gates) → option_map (prepared_of n) o ≡ Some q → q.group ≡ Some head → o ≡ Some p → p.gates ≡ Some gates → gates.head ≡ head
head_same o n q head p gates seen named kept there = same_Some gates.head head (sym (ap (option_map (λ (g : Gates). g.head)) there) ∙ head_told o n q head p seen named kept)

pub member_kept : (p : Stored) (gates : Gates) (old kept : List Patch) (n blocks : ℕ) → p.gates ≡ Some gates → MayBePut old kept n blocks p → IsMemberReady old kept n blocks gates p
member_kept p gates old kept n blocks there ready = subst (λ g. IsReadyFor g old kept n blocks p) there ready

-- the tail is one of the patches that there are
pub tail_small : (old : List Patch) {kept : List Patch} (n : ℕ) {blocks : ℕ} {gates : Gates} {p : Stored} → SparseAreLawful old n → IsMemberReady old kept n blocks gates p → gates.tail ≤ n
tail_small old n H R = let t = R.paired.tail_open in let k = (H.one_place_each.numbered t.patch t.head).1 in let e = t.numbered in omega (arith, k, e)

-- the tail may gain the change
pub record MayGain (old : List Patch) (n : ℕ) (gates : Gates) (p : Stored) : Type 0 where
  pub there : IsOpenNumber (old ++ change_of n p ∷ []) gates.tail
  pub clear : NoneHolds (depend_order (old ++ change_of n p ∷ []) (n + 1) gates.tail ((n + 1) ∷ []))
  pub gains : Lists (λ m. IsLiveNumber (old ++ change_of n p ∷ []) m × Contains ((n + 1) ∷ []) m × (DirectlyOn (old ++ change_of n p ∷ []) gates.tail m → ⊥)) ((n + 1) ∷ [])
  pub follows : gates.tail ≡ gates.head + 1
  pub names : numbers_of p.names.items ≡ gates.head ∷ []

module _ (old kept : List Patch) (n blocks : ℕ) (marks : List Bool) (K : Keeps old n blocks marks) (gates : Gates) (p : Stored) (R : IsMemberReady old kept n blocks gates p) (closed : IsOpenNumber old gates.head → ⊥) where
  H : SparseAreLawful old n
  H = K.lawful

  ready_now : IsReady old kept n blocks p
  ready_now = R.made old (inr (closed, refl))

  abbrev made : Patch
  made = change_of n p

  abbrev with_made : List Patch
  with_made = old ++ made ∷ []

  abbrev row : List ℕ
  row = p.dependencies.items

  small : gates.tail ≤ n
  small = tail_small old n H R

  tail_there : IsOpenNumber with_made gates.tail
  tail_there = let t = R.paired.tail_open in record { patch = t.patch; head = Contains-append_left old (made ∷ []) t.patch t.head; numbered = t.numbered; is_open = t.is_open }

  named : (q : ℕ) → Contains row q → q ≤ n
  named q c = elim (ready_now.depends.only q c) [
    | inl l ↦ let k = (H.one_place_each.numbered l.0.patch l.0.head).1 in let e = l.0.numbered in omega (arith, k, e)
    | inr t ↦ let k = (H.one_place_each.numbered t.patch t.head).1 in let e = t.numbered in omega (arith, k, e)
  ]

  within : IsWithin old n
  within = λ x h. ((H.one_place_each.numbered x h).1, λ q c. H.one_place_each.named x q h c)

  -- the head does not depend on the tail
  head_apart : IsLiveNumber old gates.head → DependsOn old gates.head gates.tail → ⊥
  head_apart live d = elim R.paired.tied [
    | inl disk ↦ live.live (disk live.patch live.head live.numbered)
    | inr direct ↦ H.no_cycle gates.tail (join (one direct) d)
  ]

  -- nor does what the change depends on
  row_apart : (y : ℕ) → Contains row y → (y ≡ gates.tail) ⊎ DependsOn old y gates.tail → ⊥
  row_apart y c reach = elim (ready_now.depends.only y c) [
    | inl l ↦
        let own : gates.head ≡ y = only_in gates.head y (subst (λ ns. Contains ns y) R.names l.1) in
        elim reach [
          | inl same ↦ let f = R.paired.follows in absurd (omega (arith, own, same, f))
          | inr d ↦ head_apart (subst (IsLiveNumber old) (sym own) l.0) (subst (λ x. DependsOn old x gates.tail) (sym own) d)
        ]
    | inr t ↦ elim reach [
      | inl same ↦ touched_no_gate old p.block p.span.at p.span.len gates.tail y H.one_place_each.rising R.paired.tail_open t same
      | inr d ↦ R.apart (y, touched_overlaps old p.block p.span.at p.span.len 0 grade.Soft [] y t, d)
    ]
  ]

  change_apart : DependsOn with_made (n + 1) gates.tail → ⊥
  change_apart d =
      let u = depends_under old n within p.block p.span.at p.span.len p.told.grade row named (λ m. m ≡ gates.tail) gates.tail refl d in
      row_apart u.0 u.1 (elim u.2 [ inl e ↦ inl e | inr r ↦ inr (subst (DependsOn old u.0) r.2 r.1) ])

  tail_clear : SparseAreLawful with_made (n + 1) → NoneHolds (depend_order with_made (n + 1) gates.tail ((n + 1) ∷ []))
  tail_clear L = (
    λ unknown. let t = R.paired.tail_open in let k = (H.one_place_each.numbered t.patch t.head).0 in let e = t.numbered in let s = small in unknown (omega (arith, k, e), omega (arith, s)),
    (
      λ none. none (inl tail_there),
      (
        λ shut. open_not_sealed with_made (n + 1) gates.tail L tail_there shut,
        (
          λ many. omega (arith, many),
          (
            λ (u : NamesUnknown (n + 1) ((n + 1) ∷ [])). let e = only_in (n + 1) u.0 u.1 in u.2 (omega (arith, e), omega (arith, e)),
            (
              λ (a : NamesAbove with_made gates.tail ((n + 1) ∷ [])).
                  let e = only_in (n + 1) a.0 a.1 in
                  elim a.2 [
                    | inl same ↦ let s = small in omega (arith, e, same, s)
                    | inr d ↦ change_apart (subst (λ x. DependsOn with_made x gates.tail) (sym e) d)
                  ],
              tt,
            ),
          ),
        ),
      ),
    ),
  )

  tail_gains : Lists (λ m. IsLiveNumber with_made m × Contains ((n + 1) ∷ []) m × (DirectlyOn with_made gates.tail m → ⊥)) ((n + 1) ∷ [])
  tail_gains = record {
    rising = λ k lt. absurd (omega (arith, lt));
    only = λ m c.
        let e = only_in (n + 1) m c in (
          record { patch = made; head = Contains-push old made; numbered = e; live = λ d. memory_disk made.place refl d },
          c,
          λ d. elim (Contains-push_cases old made d.patch d.head) [
            | inl o ↦ let k = H.one_place_each.named d.patch m o d.named in omega (arith, k, e)
            | inr same ↦ let s = small in let f = ap (λ (x : Patch). x.number) same in let g = d.numbered in omega (arith, s, f, g)
          ],
        );
    each = λ m k. k.1;
  }

  tail_gain : SparseAreLawful with_made (n + 1) → MayGain old n gates p
  tail_gain L = record { there = tail_there; clear = tail_clear L; gains = tail_gains; follows = R.paired.follows; names = R.names }

pub tail_may : (old kept : List Patch) (n blocks : ℕ) (marks : List Bool) → Keeps old n blocks marks → (gates : Gates) (p : Stored) → p.gates ≡ Some gates → MayBePut old kept n blocks p → IfSome p.gates (λ g. IsOpenNumber old g.head → ⊥) → SparseAreLawful (old ++ change_of n p ∷ []) (n + 1) → MayGain old n gates p
tail_may old kept n blocks marks K gates p there ready shut = tail_gain old kept n blocks marks K gates p (member_kept p gates old kept n blocks there ready) (subst (λ g. IfSome g (λ x. IsOpenNumber old x.head → ⊥)) there shut)

-- nothing refuses it
pub member_clear : (o : Option Stored) (n : ℕ) (q : Prepared) (head : ℕ) (old kept : List Patch) (blocks : ℕ) → option_map (prepared_of n) o ≡ Some q → q.group ≡ Some head → IfSome o (MayBePut old kept n blocks)
    → (OverlapReaches old (head + 1) q.block q.at q.len → ⊥) × NoneHolds (room_order kept n)
member_clear None n q head old kept blocks seen named ready = absurd (cc)
member_clear (Some p) n q head old kept blocks seen named ready =
    let shown : prepared_of n p ≡ q = cc in
    let group : option_map (λ (g : Gates). g.head) p.gates ≡ Some head = subst (λ (x : Prepared). x.group ≡ Some head) (sym shown) named in
    let r = ready_member n p head old kept n blocks group ready in
    let own = head_same (Some p) n q head p r.0 seen named refl r.1 in
    let tail : r.0.tail ≡ head + 1 = r.2.paired.follows ∙ ap (λ x. x + 1) own in
    (rw (← shown, ← tail) r.2.apart, r.2.room)
