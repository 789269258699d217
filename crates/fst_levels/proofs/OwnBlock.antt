-- Where nothing but changes of one block is pending of a row, no way leads from it back to that block, and what is at or below it stays on that block.
use Rattle.std.proofs.Common.{◌≡◌, ℕ, List, [], ◌∷◌, Contains, refl, sym, ap, subst, ◌∙◌, inl, inr}
use Rattle.fst_types.specs.{Facts.IsOnDiskWithAll, Gates.IsOpenNumber, Patches.{Patch, IsRising, IsOn, IsLive, IsOpenGate, block_of_kind}}
use Rattle.fst_types.proofs.{Crash.same_number, Finite.{Contains-from_In, first_step}, SmallStates.only_in}
use Rattle.fst_heads.specs.{Grading.{HasUnder, IsReturning, IsLeading, LeadsNowhere}, Heads.{IsRising as HeadsRise, patches_of}, Indices.PassesAt}
use Rattle.fst_heads.specs.{Nodes.{Node, nodes_of, patches_in, pending_in, AreSettled}, Pendings.{joined, Sinks}, declared.head.Head.Head, declared.pending.Pending.Pending}
use Rattle.fst_heads.proofs.{AtNumber.patches_in_nodes, Graded.off_from, Listing.rising_patches, Sums.joined_below}
use Rattle.fst_levels.specs.Needing.{StaysOn}
use Rattle.fst_levels.proofs.Low.{low_node, low_depends, low_change, behind_change, gate_low}
use Rattle.fst_heads.specs.declared.test.Test.TheVariants as test
use Rattle.fst_heads.specs.declared.pending.Pending.TheVariants as pending

module _ (nodes : List Node) (blocks : ℕ) (rising : IsRising (patches_in nodes)) (D : IsOnDiskWithAll (patches_in nodes)) (S : AreSettled nodes blocks) (b : ℕ) where
  abbrev patches : List Patch
  patches = patches_in nodes

  abbrev told : ℕ → Pending
  told = pending_in nodes

  -- no more is pending than changes of the block, some in flight
  abbrev IsLow : Pending → Type 0
  IsLow p = Sinks (pending.Behind b) p

  low_under : (row : List ℕ) (P : ℕ → Type 0) → ((n : ℕ) → Contains row n → IsLow (told n)) → HasUnder patches row P → (q : ℕ) × P q × IsLow (told q)
  low_under row P all u = elim u.2 [
    | inl here ↦ (u.0, here, all u.0 u.1)
    | inr below ↦ (below.0, below.2, low_depends (pending.Behind b) nodes blocks rising D S u.0 below.0 below.1 (all u.0 u.1))
  ]

  -- a live change among what is at issue is of the block
  low_live : (p : Patch) (d : ℕ) → Contains patches p → IsOn p d → IsLive p → IsLow (told p.number) → d ≡ b
  low_live p d h on live low =
      let y = low_node (pending.Behind b) nodes blocks rising D S p h low in
      let own = low_change (pending.Behind b) d y.0.patch.kind y.0.patch.place (joined told y.0.patch.dependencies) (subst (λ r. IsOn r d) (sym y.2) on) (subst IsLow (S.settled y.0 y.1) y.3) in
      elim (behind_change b d y.0.patch.place own) [ inl disk ↦ absurd (live (sym (ap (λ r. r.place) y.2) ∙ disk)) | inr same ↦ same ]

  own_nowhere : (row : List ℕ) → ((n : ℕ) → Contains row n → IsLow (told n)) → LeadsNowhere patches b row
  own_nowhere row all = record {
    straight = λ u.
        let q = low_under row (IsReturning patches b) all u in
        q.1.off (low_live q.1.away q.1.away_on q.1.head q.1.change q.1.away_live (subst (λ n. IsLow (told n)) (sym q.1.numbered) q.2));
    open_ended = λ u.
        let q = low_under row (IsLeading patches b) all u in
        q.1.other (low_live q.1.patch q.1.block q.1.head q.1.change q.1.live (subst (λ n. IsLow (told n)) (sym q.1.numbered) q.2));
  }

  -- no open gate is among it
  low_closed : (q : ℕ) → IsOpenNumber patches q → IsLow (told q) → ⊥
  low_closed q gate low =
      let y = low_node (pending.Behind b) nodes blocks rising D S gate.patch gate.head (subst (λ n. IsLow (told n)) (sym gate.numbered) low) in
      behind_held (gate_low (pending.Behind b) nodes blocks rising D S y.0 y.1 (subst IsOpenGate (sym y.2) gate.is_open) y.3)
    where
      behind_held : pending.Behind b ≡ pending.Held → ⊥
      behind_held e = cc

  own_stays : (n : ℕ) → IsLow (told n) → StaysOn patches b n
  own_stays n low = record {
    closed = λ above. let q = low_under (n ∷ []) (IsOpenNumber patches) alone (n, here, above) in low_closed q.0 q.1 q.2;
    own = λ above.
        let q = low_under (n ∷ []) (PassesAt (test.LiveOff b) patches) alone (n, here, above) in
        let p = q.1.patch in
        let off = off_from b p.number p.kind p.place q.1.passed in
        off.3 (low_live p off.1 q.1.head off.2 off.0 (subst (λ m. IsLow (told m)) (sym q.1.numbered) q.2));
  }
    where
      here : Contains (n ∷ []) n
      here = Contains-from_In (n ∷ []) n (inl refl)

      alone : (m : ℕ) → Contains (n ∷ []) m → IsLow (told m)
      alone m k = subst (λ x. IsLow (told x)) (only_in n m k) low

-- where no way leads back from each of the row, none does from the row
pub nowhere_each : (now : List Patch) (b : ℕ) (row : List ℕ) → ((n : ℕ) → Contains row n → LeadsNowhere now b (n ∷ [])) → LeadsNowhere now b row
nowhere_each now b row each = record {
  straight = λ u. (each u.0 u.1).straight (u.0, Contains-from_In (u.0 ∷ []) u.0 (inl refl), u.2);
  open_ended = λ u. (each u.0 u.1).open_ended (u.0, Contains-from_In (u.0 ∷ []) u.0 (inl refl), u.2);
}

-- none does from an open gate where none does from what it depends on
module _ (heads : List Head) (rising : HeadsRise heads) (b n : ℕ) (gate : Patch) (head : Contains (patches_of heads) gate) (numbered : gate.number ≡ n) (opened : IsOpenGate gate) where
  same_gate : (p : Patch) → Contains (patches_of heads) p → p.number ≡ n → p ≡ gate
  same_gate p h e = same_number (patches_of heads) p gate (rising_patches heads rising) h head (e ∙ sym numbered)

  no_change : (p : Patch) (d : ℕ) → Contains (patches_of heads) p → p.number ≡ n → IsOn p d → ⊥
  no_change p d h e on = let own = sym (ap (λ k. block_of_kind k) (ap (λ r. r.kind) (same_gate p h e) ∙ opened)) ∙ on in cc

  -- what is below the gate is at or below what it directly depends on
  down : (P : ℕ → Type 0) → (P n → ⊥) → HasUnder (patches_of heads) (n ∷ []) P → HasUnder (patches_of heads) gate.dependencies P
  down P none u =
      let here = only_in n u.0 u.1 in
      elim u.2 [
        | inl p ↦ absurd (none (subst P (sym here) p))
        | inr below ↦
            let first = first_step u.0 below.0 below.1 in
            let direct = first.1 in
            let named = subst (λ (r : Patch). Contains r.dependencies first.0) (same_gate direct.patch direct.head (direct.numbered ∙ sym here)) direct.named in
            (first.0, named, elim first.2 [ inl e ↦ inl (subst P (sym e) below.2) | inr c ↦ inr (below.0, c, below.2) ])
      ]

  pub gate_nowhere : LeadsNowhere (patches_of heads) b gate.dependencies → LeadsNowhere (patches_of heads) b (n ∷ [])
  gate_nowhere leads = record {
    straight = λ u. leads.straight (down (IsReturning (patches_of heads) b) (λ q. no_change q.away q.away_on q.head q.numbered q.change) u);
    open_ended = λ u. leads.open_ended (down (IsLeading (patches_of heads) b) (λ q. no_change q.patch q.block q.head q.numbered q.change) u);
  }

-- the same of heads, by what is pending of the row
module _ (heads : List Head) (blocks : ℕ) (rising : HeadsRise heads) (D : IsOnDiskWithAll (patches_of heads)) (S : AreSettled (nodes_of heads) blocks) (b : ℕ) (row : List ℕ) where
  heads_nowhere : ((n : ℕ) → Contains row n → Sinks (pending.Behind b) (pending_in (nodes_of heads) n)) → LeadsNowhere (patches_of heads) b row
  heads_nowhere all = rw (← patches_in_nodes heads)
      (own_nowhere (nodes_of heads) blocks (rw (patches_in_nodes heads) (rising_patches heads rising)) (rw (patches_in_nodes heads) D) S b row all)

  pub number_nowhere : (n : ℕ) → row ≡ n ∷ [] → Sinks (pending.Behind b) (pending_in (nodes_of heads) n) → LeadsNowhere (patches_of heads) b row
  number_nowhere n e low = heads_nowhere (λ m h. subst (λ k. Sinks (pending.Behind b) (pending_in (nodes_of heads) k)) (only_in n m (subst (λ ns. Contains ns m) e h)) low)

  pub row_nowhere : Sinks (pending.Behind b) (joined (pending_in (nodes_of heads)) row) → LeadsNowhere (patches_of heads) b row
  row_nowhere low = heads_nowhere (joined_below (pending_in (nodes_of heads)) row (pending.Behind b) low)

-- nor does what is at or below a patch leave the block, by what is pending of it
pub number_stays : (heads : List Head) (blocks : ℕ) → HeadsRise heads → IsOnDiskWithAll (patches_of heads) → AreSettled (nodes_of heads) blocks → (b n : ℕ) → Sinks (pending.Behind b) (pending_in (nodes_of heads) n) → StaysOn (patches_of heads) b n
number_stays heads blocks rising D S b n low = rw (← patches_in_nodes heads)
    (own_stays (nodes_of heads) blocks (rw (patches_in_nodes heads) (rising_patches heads rising)) (rw (patches_in_nodes heads) D) S b n low)
