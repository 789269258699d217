-- What the search for a cycle finds from above, and from both ends.
use Rattle.std.proofs.Common.{◌≡◌, ◌⊎◌, ◌<◌, ◌∙◌, ℕ, List, [], Contains, refl, sym, ap, subst, inl, inr}
use Rattle.fst_types.specs.{Closure.{Closure, one, join}, Dependencies.DependsOn, Gates.IsOpenNumber, Patches.Patch}
use Rattle.fst_types.proofs.Finite.{Contains-from_In, In, In-from_Contains}
use Rattle.fst_heads.specs.Nodes.{Node, patches_in, pending_in, AreLinked}
use Rattle.fst_heads.specs.declared.pending.Pending.{Pending}
use Rattle.fst_heads.proofs.{PendingIn.found, Placed.{patch_in, node_of_patch}, Waiting.{times_some, some_times}}
use Rattle.fst_walks.specs.{Descending.{IsLedFrom, Visits}, Searching.{AreHeldByGates, IsBetween, IsNextAbove, StayApart}}
use Rattle.fst_walks.proofs.Searched.{above_held, searched_led, steps_down}
use Rattle.fst_levels.proofs.Trails.{none_in}
use Rattle.fst_heads.specs.declared.pending.Pending.TheVariants as pending

-- the steps up from a node are to those of its dependants that wait for an open gate
module _ (nodes : List Node) (linked : AreLinked nodes) (x : Node) (c : Contains nodes x) where
  pub above_from : (n : ℕ) → Contains x.dependants n → pending_in nodes n ≡ pending.Held → IsNextAbove (patches_in nodes) (pending_in nodes) x.patch.number n
  above_from n named e = elim (found nodes n) [
    | inl f ↦
        let there = times_some x.dependants f.node.patch.number (subst (λ m. In x.dependants m) (sym f.numbered) (In-from_Contains x.dependants n named)) in
        let here = some_times f.node.patch.dependencies x.patch.number (subst (λ k. 0 < k) (linked f.node x f.head c) there) in
        (record { patch = f.node.patch; head = patch_in nodes f.node f.head; numbered = f.numbered; named = Contains-from_In f.node.patch.dependencies x.patch.number here }, e)
    | inr none ↦ absurd (let g = sym none ∙ e in cc)
  ]

  pub above_to : (n : ℕ) → IsNextAbove (patches_in nodes) (pending_in nodes) x.patch.number n → Contains x.dependants n × (pending_in nodes n ≡ pending.Held)
  above_to n s =
      let y = node_of_patch nodes s.0.patch s.0.head in
      let named = In-from_Contains y.0.patch.dependencies x.patch.number (subst (λ (p : Patch). Contains p.dependencies x.patch.number) (sym y.2) s.0.named) in
      let there = subst (λ k. 0 < k) (sym (linked y.0 x y.1 c)) (times_some y.0.patch.dependencies x.patch.number named) in
      let back = some_times x.dependants y.0.patch.number there in
      (subst (Contains x.dependants) (ap (λ (p : Patch). p.number) y.2 ∙ s.0.numbered) (Contains-from_In x.dependants y.0.patch.number back), s.1)

module _ (patches : List Patch) (told : ℕ → Pending) (held : AreHeldByGates patches told) (gate : ℕ) (is_open : IsOpenNumber patches gate) where
  -- each step of the search is to what depends on it
  steps_up : (n m : ℕ) → Closure (IsNextAbove patches told) n m → DependsOn patches m n
  steps_up n m (one s) = one s.0
  steps_up n m (join {q = r} c d) = join (steps_up r m d) (steps_up n r c)

  -- and all that depends on the gate is met
  goes_up : (n m : ℕ) → DependsOn patches n m → ((q : ℕ) → DependsOn patches q m → told q ≡ pending.Held) → Closure (IsNextAbove patches told) m n
  goes_up n m (one d) above = one (d, above n (one d))
  goes_up n m (join {q = r} c d) above = join (goes_up r m d above) (goes_up n r c (λ q b. above q (join b d)))

  -- one walk starts from the gate, and one from those that wait for an open gate
  module _ (Start : ℕ → Type 0) (bottoms tops : List ℕ) (first : Visits (λ n. (n ≡ gate) × (told n ≡ pending.Held)) [] bottoms) (starts : Visits (λ n. Start n × (told n ≡ pending.Held)) [] tops) where
    at_gate : (n : ℕ) → Contains bottoms n → n ≡ gate
    at_gate n c = elim (first.only n c) [ inl none ↦ absurd (none_in n none) | inr k ↦ k.0 ]

    at_start : (n : ℕ) → Contains tops n → Start n
    at_start n c = elim (starts.only n c) [ inl none ↦ absurd (none_in n none) | inr k ↦ k.0 ]

    -- what both lead to depends on the gate, and one of the starts on it
    pub between_above : (n : ℕ) → IsBetween patches told bottoms tops n → (s : ℕ) × Start s × ((s ≡ gate) ⊎ DependsOn patches s gate)
    between_above n b =
        let over : (n ≡ gate) ⊎ DependsOn patches n gate = elim b.over [
          | inl here ↦ inl (at_gate n here)
          | inr r ↦ inr (subst (DependsOn patches n) (at_gate r.0 r.1) (steps_up r.0 n r.2))
        ] in
        elim b.under [
          | inl here ↦ (n, at_start n here, over)
          | inr r ↦
              let down = steps_down patches told held gate is_open r.0 n r.2 in
              (r.0, at_start r.0 r.1, inr (elim over [ inl e ↦ subst (DependsOn patches r.0) e down | inr d ↦ join down d ]))
        ]

    has_gate : Contains bottoms gate
    has_gate = first.each gate (refl, (held gate).1 (inl is_open))

    above_led : (n : ℕ) → (n ≡ gate) ⊎ DependsOn patches n gate → IsLedFrom (IsNextAbove patches told) bottoms n
    above_led n (inl e) = inl (subst (Contains bottoms) (sym e) has_gate)
    above_led n (inr d) = inr (gate, has_gate, goes_up n gate d (λ q b. (held q).1 (inr (gate, b, is_open))))

    above_is_held : (n : ℕ) → (n ≡ gate) ⊎ DependsOn patches n gate → told n ≡ pending.Held
    above_is_held n (inl e) = subst (λ m. told m ≡ pending.Held) (sym e) ((held gate).1 (inl is_open))
    above_is_held n (inr d) = above_held patches told held gate is_open n d

    -- where one of them has met all and they stay apart, none of the starts depends on the gate
    pub apart_none : (over under : List ℕ) → StayApart patches told bottoms tops over under → (s : ℕ) × Start s × ((s ≡ gate) ⊎ DependsOn patches s gate) → ⊥
    apart_none over under x a = elim x.ended [
      | inl all ↦ x.apart a.0 (all a.0 (above_led a.0 a.2)) (x.under_begun a.0 (starts.each a.0 (a.1, above_is_held a.0 a.2)))
      | inr all ↦ x.apart gate (x.over_begun gate has_gate) (all gate ((searched_led patches told held gate is_open Start tops starts).1 a))
    ]
