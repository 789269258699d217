-- Two new gates, the second of which depends on the first, and what is kept of them and beside them.
use Rattle.std.proofs.Common.{◌≡◌, ◌≢◌, ◌<◌, count_by, ◌+◌, ℕ, List, [], ◌∷◌, ◌++◌, map, Contains, None, refl, sym, subst, inl, inr, arith}
use Rattle.std.proofs.lemmas.{Bool.{ne_eqb, eq-eqb}, List.Elements.{Contains-push, Contains-append_left}}
use Rattle.fst_types.specs.{Dependencies.{DirectlyOn, DependsOn, IsLiveNumber}, Facts.SparseAreLawful, Gates.IsOpenNumber, Gating.{GateGains, gains}, Limits.max_heads}
use Rattle.fst_types.specs.{Lists.Lists, Making.fresh, Order.NamesAbove, Patches.{Patch, OpenGate}, Refusals.NoneHolds, Tests.is_live}
use Rattle.fst_graph.specs.{Fresh.MayAdd, Grouping.{pair_order, AddsPair}, Known.Known}
use Rattle.fst_types.proofs.{Crash.same_number, Finite.{In, Contains-from_In, first_step}, Heads.sparse_depended, SmallStates.only_in}
use Rattle.fst_heads.proofs.{CountsAs.{count_append, count_cons}, Making.gate_lawful}
use Rattle.fst_levels.proofs.Trails.{none_in}
use Rattle.fst_types.specs.declared.place.Place.TheVariants as place
use Rattle.fst_types.proofs.Numbers.{memory_disk}

-- the patches with the first gate, and with both
abbrev pub with_head : List Patch → ℕ → List Patch
with_head heads n = heads ++ fresh (n + 1) OpenGate [] ∷ []

abbrev pub paired : List Patch → ℕ → List Patch
paired heads n = with_head heads n ++ fresh (n + 1 + 1) OpenGate ((n + 1) ∷ []) ∷ []

module _ (heads : List Patch) (n : ℕ) (H : SparseAreLawful heads n) where
  abbrev head_gate : Patch
  head_gate = fresh (n + 1) OpenGate []

  abbrev tail_gate : Patch
  tail_gate = fresh (n + 1 + 1) OpenGate []

  abbrev one : List Patch
  one = with_head heads n

  abbrev pub with_tail : List Patch
  with_tail = one ++ tail_gate ∷ []

  abbrev pub tied_tail : Patch
  tied_tail = fresh (n + 1 + 1) OpenGate ((n + 1) ∷ [])

  abbrev both : List Patch
  both = paired heads n

  pub head_lawful : SparseAreLawful one (n + 1)
  head_lawful = gate_lawful heads n H

  both_lawful : SparseAreLawful with_tail (n + 1 + 1)
  both_lawful = gate_lawful one (n + 1) head_lawful

  head_there : Contains with_tail head_gate
  head_there = Contains-append_left one (tail_gate ∷ []) head_gate (Contains-push heads head_gate)

  tail_there : Contains with_tail tail_gate
  tail_there = Contains-push one tail_gate

  is_head : (x : Patch) → Contains with_tail x → x.number ≡ n + 1 → x ≡ head_gate
  is_head x c e = same_number with_tail x head_gate both_lawful.one_place_each.rising c head_there e

  is_tail : (x : Patch) → Contains with_tail x → x.number ≡ n + 1 + 1 → x ≡ tail_gate
  is_tail x c e = same_number with_tail x tail_gate both_lawful.one_place_each.rising c tail_there e

  is_open : IsOpenNumber with_tail (n + 1 + 1)
  is_open = record { patch = tail_gate; head = tail_there; numbered = refl; is_open = refl }

  head_live : IsLiveNumber with_tail (n + 1)
  head_live = record { patch = head_gate; head = head_there; numbered = refl; live = λ d. memory_disk place.Memory refl d }

  none_direct : (m : ℕ) → DirectlyOn with_tail (n + 1) m → ⊥
  none_direct m d = none_in m (subst (λ (x : Patch). Contains x.dependencies m) (is_head d.patch d.head d.numbered) d.named)

  none_yet : (m : ℕ) → DirectlyOn with_tail (n + 1 + 1) m → ⊥
  none_yet m d = none_in m (subst (λ (x : Patch). Contains x.dependencies m) (is_tail d.patch d.head d.numbered) d.named)

  none_above : DependsOn with_tail (n + 1) (n + 1 + 1) → ⊥
  none_above d = let f = first_step (n + 1) (n + 1 + 1) d in none_direct f.0 f.1

  none_named : NamesAbove with_tail (n + 1 + 1) ((n + 1) ∷ []) → ⊥
  none_named a = let e = sym (only_in (n + 1) a.0 a.1) in elim a.2 [ inl same ↦ omega (arith, same, e) | inr d ↦ none_above (subst (λ m. DependsOn with_tail m (n + 1 + 1)) e d) ]

  names : Lists (λ m. IsLiveNumber with_tail m × Contains ((n + 1) ∷ []) m × (DirectlyOn with_tail (n + 1 + 1) m → ⊥)) ((n + 1) ∷ [])
  names = record {
    rising = λ i lt. absurd (omega (arith, lt));
    only = λ m c. (subst (IsLiveNumber with_tail) (only_in (n + 1) m c) head_live, c, none_yet m);
    each = λ m h. h.1;
  }

  others : (xs : List Patch) → ((x : Patch) → In xs x → x.number ≢ n + 1 + 1) → map (gains (n + 1 + 1) ((n + 1) ∷ [])) (xs ++ tail_gate ∷ []) ≡ xs ++ tied_tail ∷ []
  others [] away = rw (eq-eqb (n + 1 + 1) (n + 1 + 1) refl) refl
  others (x ∷ xs) away =
      let first : gains (n + 1 + 1) ((n + 1) ∷ []) x ≡ x = rw (ne_eqb x.number (n + 1 + 1) (away x (inl refl))) refl in
      let rest = others xs (λ y c. away y (inr c)) in
      cc

  pub gained : map (gains (n + 1 + 1) ((n + 1) ∷ [])) with_tail ≡ both
  gained = others one (λ x c e. let small = (head_lawful.one_place_each.numbered x (Contains-from_In one x c)).1 in omega (arith, small, e))

  -- the second gate depends on the first
  tie : GateGains with_tail (n + 1 + 1) ((n + 1) ∷ []) both
  tie = record { gate = is_open; clear = none_named; names = (n + 1) ∷ []; live = names; gained = sym gained }

  pub paired_lawful : SparseAreLawful both (n + 1 + 1)
  paired_lawful = sparse_depended with_tail both (n + 1 + 1) (n + 1 + 1) ((n + 1) ∷ []) tie both_lawful

  pub adds_pair : (blocks : ℕ) (old : Known) → old.heads ≡ heads → old.numbers ≡ n → old.blocks ≡ blocks → NoneHolds (pair_order heads n)
      → AddsPair old (n + 1) (record { heads = both; numbers = n + 1 + 1; blocks = blocks; groups = old.groups; prepared = None })
  adds_pair blocks old hs ns bs clear = record {
    clear = rw (hs, ns) clear;
    row = record {
      with_head = one;
      head = record { next = rw ns refl; added = rw hs refl };
      with_tail = with_tail;
      tail = record { next = refl; added = refl };
      tie = tie;
    };
    state = rw bs refl;
  }

  -- what the second depends on is live
  pub tie_live : (m : ℕ) → Contains ((n + 1) ∷ []) m → IsLiveNumber one m
  tie_live m c = subst (IsLiveNumber one) (only_in (n + 1) m c) (record { patch = head_gate; head = Contains-push heads head_gate; numbered = refl; live = λ d. memory_disk place.Memory refl d })

  -- it may be added over the first
  pub pair_may : count_by is_live heads + 1 < max_heads → MayAdd one (n + 1) tied_tail
  pair_may few = record {
    next = refl;
    plain = λ b. refl;
    off = λ b on. cc;
    few = omega (arith, few, count_append is_live heads (head_gate ∷ []), count_cons is_live head_gate []);
    rising = λ k lt. absurd (omega (arith, lt));
    live = tie_live;
    lawful = paired_lawful;
  }
