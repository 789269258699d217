-- What a patch depends on has no more pending than it has.
use Rattle.std.proofs.lemmas.Option.{same_Some}
use Rattle.std.proofs.Common.{◌≡◌, ◌⊎◌, ℕ, true, Some, refl, sym, ap, subst, ◌∙◌, inl, inr, List, Contains}
use Rattle.std.proofs.lemmas.Bool.{cases_Bool, eq-eqb, false≢true}
use Rattle.fst_types.specs.{Closure.{one, join as before}, Dependencies.{DirectlyOn, DependsOn}, Facts.IsOnDiskWithAll}
use Rattle.fst_types.specs.{Patches.{Kind, Change, Empty, OpenGate, SealedGate, block_of_kind, Patch, IsRising, IsOpenGate}, declared.place.Place.Place}
use Rattle.fst_types.proofs.Finite.{Decided}
use Rattle.fst_heads.specs.{Nodes.{Node, patches_in, pending_in, AreSettled}, Pendings.{is_pending, join, joined, of_change, of_kind, IsOf, Sinks}}
use Rattle.fst_heads.specs.declared.pending.Pending.{Pending}
use Rattle.fst_heads.proofs.{Joining.{join_self, join_turned, held_sinks, sinks_to_nothing, sinks_trans, sinks_both, sinks_parts, sinks_block, sinks_behind, behind_sinks}, Pended.pending_same, PendingIn.{found, told_of}, Placed.{patch_in, node_of_patch}, Sums.joined_below, Turning.is_itself}
use Rattle.fst_types.specs.declared.place.Place.TheVariants as place
use Rattle.fst_heads.specs.declared.pending.Pending.TheVariants as pending

-- the test tells whether it is the block
pub is_block : (b : ℕ) (p : Pending) → is_pending p (pending.Block b) ≡ true → p ≡ pending.Block b
is_block b p e = pending_same p (pending.Block b) e

pub block_is : (b : ℕ) (p : Pending) → p ≡ pending.Block b → is_pending p (pending.Block b) ≡ true
block_is b p e = ap (λ q. is_pending q (pending.Block b)) e ∙ eq-eqb b b refl

-- the test tells whether an open gate is waited for
pub is_held : (p : Pending) → is_pending p pending.Held ≡ true → p ≡ pending.Held
is_held p e = pending_same p pending.Held e

pub held_is : (p : Pending) → p ≡ pending.Held → is_pending p pending.Held ≡ true
held_is p e = ap (λ q. is_pending q pending.Held) e

-- of a change no more is pending than changes of the block in memory
pub block_change : (b c : ℕ) (p : Place) → Sinks (pending.Block b) (of_change c p pending.Nothing) → (p ≡ place.Disk) ⊎ ((p ≡ place.Memory) × (c ≡ b))
block_change b c place.Memory low = elim (sinks_block b (pending.Block c) low) [ inl e ↦ absurd (cc) | inr e ↦ inr (refl, cc) ]
block_change b c place.Flight low = elim (sinks_block b (pending.Behind c) low) [ inl e ↦ absurd (cc) | inr e ↦ absurd (cc) ]
block_change b c place.Disk low = inl refl

pub change_block : (b c : ℕ) (p : Place) → (p ≡ place.Disk) ⊎ ((p ≡ place.Memory) × (c ≡ b)) → Sinks (pending.Block b) (of_change c p pending.Nothing)
change_block b c p (inl disk) = rw disk refl
change_block b c p (inr own) = rw (own.0, own.1) (join_self (pending.Block b))

-- the same where some may be in flight
pub behind_change : (b c : ℕ) (p : Place) → Sinks (pending.Behind b) (of_change c p pending.Nothing) → (p ≡ place.Disk) ⊎ (c ≡ b)
behind_change b c place.Memory low = elim (sinks_behind b (pending.Block c) low) [ inl e ↦ absurd (cc) | inr own ↦ elim own [ inl e ↦ inr (cc) | inr e ↦ absurd (cc) ] ]
behind_change b c place.Flight low = elim (sinks_behind b (pending.Behind c) low) [ inl e ↦ absurd (cc) | inr own ↦ elim own [ inl e ↦ absurd (cc) | inr e ↦ inr (cc) ] ]
behind_change b c place.Disk low = inl refl

pub own_low : (b : ℕ) (p : Pending) → (p ≡ pending.Nothing) ⊎ IsOf b p → Sinks (pending.Behind b) p
own_low b p (inl e) = rw e refl
own_low b p (inr own) = behind_sinks b p own

pub disk_or : (p : Place) → (p ≡ place.Disk) ⊎ (p ≡ place.Disk → ⊥)
disk_or place.Memory = inr (λ e. cc)
disk_or place.Flight = inr (λ e. cc)
disk_or place.Disk = inl refl

-- no more is pending than the most
module _ (most : Pending) where
  pub low_decided : (p : Pending) → Decided (Sinks most p)
  low_decided p = elim (cases_Bool (is_pending (join most p) most)) [
    | inl t ↦ inl (pending_same (join most p) most t)
    | inr f ↦ inr (λ e. false≢true (sym f ∙ (ap (λ q. is_pending q most) e ∙ is_itself most)))
  ]

  -- of a patch that is not on disk no less is pending than below it, and than of a change alone
  low_below : (k : Kind) (p : Place) (below : Pending) → (p ≡ place.Disk → ⊥) → Sinks most (of_kind k p below) → Sinks most below
  low_below (Change c at len grade) place.Memory below live low = (sinks_parts most (pending.Block c) below low).1
  low_below (Change c at len grade) place.Flight below live low = (sinks_parts most (pending.Behind c) below low).1
  low_below (Change c at len grade) place.Disk below live low = absurd (live refl)
  low_below Empty p below live low = low
  low_below OpenGate p below live low = sinks_trans most pending.Held below low (held_sinks below)
  low_below SealedGate p below live low = low

  pub low_change : (c : ℕ) (k : Kind) (p : Place) (below : Pending) → block_of_kind k ≡ Some c → Sinks most (of_kind k p below) → Sinks most (of_change c p pending.Nothing)
  low_change c (Change d at len grade) place.Memory below on low = subst (λ e. Sinks most (pending.Block e)) (same_Some d c on) (sinks_parts most (pending.Block d) below low).0
  low_change c (Change d at len grade) place.Flight below on low = subst (λ e. Sinks most (pending.Behind e)) (same_Some d c on) (sinks_parts most (pending.Behind d) below low).0
  low_change c (Change d at len grade) place.Disk below on low = low
  low_change c Empty p below on low = absurd (cc)
  low_change c OpenGate p below on low = absurd (cc)
  low_change c SealedGate p below on low = absurd (cc)

  -- and no more, if it is no open gate
  pub low_above : (k : Kind) (p : Place) (below : Pending) → Sinks most below → (k ≡ OpenGate → ⊥) → ((c : ℕ) → block_of_kind k ≡ Some c → Sinks most (of_change c p pending.Nothing)) → Sinks most (of_kind k p below)
  low_above (Change c at len grade) place.Memory below low gate own = sinks_both most (pending.Block c) below (own c refl) low
  low_above (Change c at len grade) place.Flight below low gate own = sinks_both most (pending.Behind c) below (own c refl) low
  low_above (Change c at len grade) place.Disk below low gate own = own c refl
  low_above Empty p below low gate own = low
  low_above OpenGate p below low gate own = absurd (gate refl)
  low_above SealedGate p below low gate own = low

  module _ (nodes : List Node) (blocks : ℕ) (rising : IsRising (patches_in nodes)) (D : IsOnDiskWithAll (patches_in nodes)) (S : AreSettled nodes blocks) where
    abbrev told_in : ℕ → Pending
    told_in = pending_in nodes

    -- of what is on disk nothing is pending
    disk_told : (q : ℕ) → ((p : Patch) → Contains (patches_in nodes) p → p.number ≡ q → p.place ≡ place.Disk) → told_in q ≡ pending.Nothing
    disk_told q disk = elim (found nodes q) [
      | inl f ↦ f.told ∙ (S.placed f.node f.head).1 (disk f.node.patch (patch_in nodes f.node f.head) f.numbered)
      | inr none ↦ none
    ]

    -- the node of a patch of which no more is told
    pub low_node : (p : Patch) → Contains (patches_in nodes) p → Sinks most (told_in p.number) → (y : Node) × Contains nodes y × (y.patch ≡ p) × Sinks most y.pending
    low_node p h low =
        let y = node_of_patch nodes p h in
        (y.0, y.1, y.2, subst (Sinks most) (sym (ap told_in (ap (λ r. r.number) y.2)) ∙ told_of nodes y.0 rising y.1) low)

    low_named : (y : Node) → Contains nodes y → Sinks most y.pending → (q : ℕ) → Contains y.patch.dependencies q → Sinks most (told_in q)
    low_named y h low q named = elim (disk_or y.patch.place) [
      | inl disk ↦ subst (Sinks most) (sym (disk_told q (D.disk y.patch (patch_in nodes y h) disk q named))) (sinks_to_nothing most)
      | inr live ↦ joined_below told_in y.patch.dependencies most (low_below y.patch.kind y.patch.place (joined told_in y.patch.dependencies) live (subst (Sinks most) (S.settled y h) low)) q named
    ]

    low_direct : (p q : ℕ) → DirectlyOn (patches_in nodes) p q → Sinks most (told_in p) → Sinks most (told_in q)
    low_direct p q d low =
        let y = low_node d.patch d.head (subst (λ n. Sinks most (told_in n)) (sym d.numbered) low) in
        low_named y.0 y.1 y.3 q (subst (λ r. Contains r.dependencies q) (sym y.2) d.named)

    pub low_depends : (p q : ℕ) → DependsOn (patches_in nodes) p q → Sinks most (told_in p) → Sinks most (told_in q)
    low_depends p q (one d) low = low_direct p q d low
    low_depends p q (before {q = r} d e) low = low_depends r q e (low_depends p r d low)

    -- an open gate has the most that may be pending
    pub gate_low : (y : Node) → Contains nodes y → IsOpenGate y.patch → Sinks most y.pending → most ≡ pending.Held
    gate_low y h gate low =
        let held : y.pending ≡ pending.Held = S.settled y h ∙ ap (λ k. of_kind k y.patch.place (joined told_in y.patch.dependencies)) gate in
        sym (subst (Sinks most) held low) ∙ join_turned most pending.Held
