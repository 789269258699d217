-- What the search for a cycle finds.
use Rattle.std.proofs.Common.{◌≡◌, ◌⊎◌, ◌↔◌, ◌<◌, ℕ, List, [], ◌∷◌, length, get_or, Contains, refl, sym, ap, subst, inl, inr, arith}
use Rattle.fst_types.specs.{Closure.{Closure, one, join}, Dependencies.DependsOn, Gates.IsOpenNumber, Patches.Patch}
use Rattle.fst_types.proofs.Finite.{In-from_Contains, last_step}
use Rattle.fst_heads.specs.{Heads.patches_of, Indices.{IsAbove, HasIndex}, Nodes.{Node, node_of, nodes_of, patches_in, times, AreLinked}, declared.head.Head.Head}
use Rattle.fst_heads.specs.declared.pending.Pending.{Pending}
use Rattle.fst_heads.proofs.{AtNumber.patches_in_nodes, PendingAt.node_in, Placed.node_of_patch, Indices.any_default, Waiting.times_some}
use Rattle.fst_walks.specs.{Descending.{IsLedFrom, Visits}, Searching.{AreHeldByGates, IsNextHeld}}
use Rattle.fst_levels.proofs.Trails.{none_in}
use Rattle.fst_heads.specs.declared.pending.Pending.TheVariants as pending

module _ (patches : List Patch) (told : ℕ → Pending) (held : AreHeldByGates patches told) (gate : ℕ) (is_open : IsOpenNumber patches gate) where
  -- what depends on the gate waits for an open gate
  pub above_held : (n : ℕ) → DependsOn patches n gate → told n ≡ pending.Held
  above_held n d = (held n).1 (inr (gate, d, is_open))

  -- each step of the search goes down
  pub steps_down : (n m : ℕ) → Closure (IsNextHeld patches told) n m → DependsOn patches n m
  steps_down n m (one s) = one s.0
  steps_down n m (join {q = r} c d) = join (steps_down n r c) (steps_down r m d)

  -- and all on a way down to the gate is met
  goes_down : (n m : ℕ) → DependsOn patches n m → told m ≡ pending.Held → ((q : ℕ) → DependsOn patches q m → told q ≡ pending.Held) → Closure (IsNextHeld patches told) n m
  goes_down n m (one d) e above = one (d, e)
  goes_down n m (join {q = r} c d) e above = join (goes_down n r c (above r d) (λ q b. above q (join b d))) (goes_down r m d e above)

  -- one of those from which the search starts is the gate, or depends on it
  abbrev StartsAbove : (ℕ → Type 0) → Type 0
  StartsAbove Start = (n : ℕ) × Start n × ((n ≡ gate) ⊎ DependsOn patches n gate)

  pub searched_led : (Start : ℕ → Type 0) (start : List ℕ) → Visits (λ n. Start n × (told n ≡ pending.Held)) [] start → IsLedFrom (IsNextHeld patches told) start gate ↔ StartsAbove Start
  searched_led Start start starts = (from, to)
    where
      begun : (n : ℕ) → Contains start n → Start n
      begun n c = elim (starts.only n c) [ inl none ↦ absurd (none_in n none) | inr k ↦ k.0 ]

      from : IsLedFrom (IsNextHeld patches told) start gate → StartsAbove Start
      from led = elim led [
        | inl first ↦ (gate, begun gate first, inl refl)
        | inr r ↦ (r.0, begun r.0 r.1, inr (steps_down r.0 gate r.2))
      ]

      to : StartsAbove Start → IsLedFrom (IsNextHeld patches told) start gate
      to a = elim a.2 [
        | inl e ↦ inl (subst (Contains start) e (starts.each a.0 (a.1, subst (λ n. told n ≡ pending.Held) (sym e) ((held gate).1 (inl is_open)))))
        | inr d ↦ inr (a.0, starts.each a.0 (a.1, above_held a.0 d), goes_down a.0 gate d ((held gate).1 (inl is_open)) above_held)
      ]

-- a name that is the gate, or depends on it
pub named_held : (patches : List Patch) (gate n : ℕ) → IsOpenNumber patches gate → (n ≡ gate) ⊎ DependsOn patches n gate → IsAbove patches (IsOpenNumber patches) n
named_held patches gate n is_open (inl e) = inl (subst (IsOpenNumber patches) (sym e) is_open)
named_held patches gate n is_open (inr d) = inr (gate, d, is_open)

-- where nothing directly depends on the gate, nothing depends on it
pub none_above : (nodes : List Node) (x : Node) → Contains nodes x → AreLinked nodes → x.dependants ≡ [] → (n : ℕ) → DependsOn (patches_in nodes) n x.patch.number → ⊥
none_above nodes x c linked none n d =
    let s = last_step n x.patch.number d in
    let y = node_of_patch nodes s.1.patch s.1.head in
    let named = subst (λ (p : Patch). Contains p.dependencies x.patch.number) (sym y.2) s.1.named in
    let some = subst (λ k. 0 < k) (sym (linked y.0 x y.1 c)) (times_some y.0.patch.dependencies x.patch.number (In-from_Contains y.0.patch.dependencies x.patch.number named)) in
    let empty : times x.dependants y.0.patch.number ≡ 0 = ap (λ row. times row y.0.patch.number) none in
    absurd (omega (arith, some, empty))

-- a list without elements
no_elements : (xs : List ℕ) → length xs ≡ 0 → xs ≡ []
no_elements [] e = refl
no_elements (x ∷ xs) e = absurd (omega (arith, e))

-- the same of heads
pub none_depend : (heads : List Head) (gate s : ℕ) (d : Head) → AreLinked (nodes_of heads) → HasIndex heads gate s → length (get_or heads s d).dependants.items ≡ 0 → (n : ℕ) → DependsOn (patches_of heads) n gate → ⊥
none_depend heads gate s d linked index empty n on =
    let x : Head = get_or heads s d in
    let here = node_in heads s x index.0 (any_default heads s d x index.0) in
    none_above (nodes_of heads) (node_of x) here linked (no_elements x.dependants.items empty) n
    (subst (λ ps. DependsOn ps n x.number) (sym (patches_in_nodes heads)) (subst (DependsOn (patches_of heads) n) (sym (index.1 d)) on))
