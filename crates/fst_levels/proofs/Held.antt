-- What waits for an open gate: the gate, and what depends on it. It is told of each patch of its row whether it does.
use Rattle.std.proofs.Common.{◌≡◌, ◌⊎◌, ℕ, List, [], ◌∷◌, Contains, refl, sym, ap, subst, ◌∙◌, inl, inr}
use Rattle.fst_types.specs.{Closure.{IsAcyclic, one, join}, Dependencies.{DirectlyOn, DependsOn, IsLiveNumber}, Facts.IsOnDiskWithAll, Gates.IsOpenNumber}
use Rattle.fst_types.specs.{Patches.{Kind, Change, Empty, OpenGate, SealedGate, IsRising, IsOpenGate}, declared.place.Place.Place}
use Rattle.fst_types.proofs.Finite.{In, In-from_Contains, Contains-from_In, lowest}
use Rattle.fst_heads.specs.{Grading.HasUnder, Heads.{IsRising as HeadsRise, patches_of}, Indices.IsAbove}
use Rattle.fst_heads.specs.{Nodes.{Node, nodes_of, patches_in, pending_in, AreSettled}, Pendings.{join as together, joined, of_kind}, declared.head.Head.Head}
use Rattle.fst_heads.specs.declared.pending.Pending.{Pending}
use Rattle.fst_heads.proofs.{AtNumber.patches_in_nodes, Joining.{join_held, held_join}, Listing.rising_patches, PendingIn.{found, told_of}}
use Rattle.fst_heads.proofs.Placed.{patch_in, node_of_patch}
use Rattle.fst_types.specs.declared.place.Place.TheVariants as place
use Rattle.fst_heads.specs.declared.pending.Pending.TheVariants as pending

-- a row waits for an open gate exactly where one in it does
row_held : (told : ℕ → Pending) (row : List ℕ) → joined told row ≡ pending.Held → (n : ℕ) × In row n × (told n ≡ pending.Held)
row_held told [] e = absurd (cc)
row_held told (n ∷ ns) e = elim (join_held (told n) (joined told ns) e) [
  | inl own ↦ (n, inl refl, own)
  | inr below ↦ let r = row_held told ns below in (r.0, inr r.1, r.2)
]

held_row : (told : ℕ → Pending) (row : List ℕ) (n : ℕ) → In row n → told n ≡ pending.Held → joined told row ≡ pending.Held
held_row told [] n i e = absurd i
held_row told (m ∷ ms) n (inl same) e = ap (λ p. together p (joined told ms)) (ap told same ∙ e)
held_row told (m ∷ ms) n (inr i) e = held_join (told m) (joined told ms) (held_row told ms n i e)

-- by its kind: an open gate, or what waits for one below
kind_held : (k : Kind) (p : Place) (below : Pending) → of_kind k p below ≡ pending.Held → (k ≡ OpenGate) ⊎ (below ≡ pending.Held)
kind_held (Change b at len grade) place.Memory below e = elim (join_held (pending.Block b) below e) [ inl own ↦ absurd (cc) | inr h ↦ inr h ]
kind_held (Change b at len grade) place.Flight below e = elim (join_held (pending.Behind b) below e) [ inl own ↦ absurd (cc) | inr h ↦ inr h ]
kind_held (Change b at len grade) place.Disk below e = absurd (cc)
kind_held Empty p below e = inr e
kind_held OpenGate p below e = inl refl
kind_held SealedGate p below e = inr e

held_kind : (k : Kind) (p : Place) (below : Pending) → (p ≡ place.Disk → ⊥) → below ≡ pending.Held → of_kind k p below ≡ pending.Held
held_kind (Change b at len grade) place.Memory below live e = held_join (pending.Block b) below e
held_kind (Change b at len grade) place.Flight below live e = held_join (pending.Behind b) below e
held_kind (Change b at len grade) place.Disk below live e = absurd (live refl)
held_kind Empty p below live e = e
held_kind OpenGate p below live e = refl
held_kind SealedGate p below live e = e

module _ (nodes : List Node) (blocks : ℕ) (rising : IsRising (patches_in nodes)) (acyclic : IsAcyclic (DirectlyOn (patches_in nodes))) (D : IsOnDiskWithAll (patches_in nodes)) (S : AreSettled nodes blocks) where
  abbrev told : ℕ → Pending
  told = pending_in nodes

  record WaitsForGate (y : Node) : Type 0 where
    head : Contains nodes y
    held : y.pending ≡ pending.Held

  -- it is an open gate, or something below it waits for one
  next_held : (y : Node) → WaitsForGate y → IsOpenGate y.patch ⊎ ((z : Node) × WaitsForGate z × DependsOn (patches_in nodes) y.patch.number z.patch.number)
  next_held y h = elim (kind_held y.patch.kind y.patch.place (joined told y.patch.dependencies) (sym (S.settled y h.head) ∙ h.held)) [
    | inl gate ↦ inl gate
    | inr below ↦
        let n = row_held told y.patch.dependencies below in
        elim (found nodes n.0) [
          | inl z ↦
              let named = subst (Contains y.patch.dependencies) (sym z.numbered) (Contains-from_In y.patch.dependencies n.0 n.1) in
              let d : DirectlyOn (patches_in nodes) y.patch.number z.node.patch.number = record { patch = y.patch; head = patch_in nodes y h.head; numbered = refl; named = named } in
              inr (z.node, record { head = z.head; held = sym z.told ∙ n.2 }, one d)
          | inr none ↦ absurd (let e = sym none ∙ n.2 in cc)
        ]
  ]

  -- so below what waits for a gate there is an open one, or it is one
  pub held_above : (n : ℕ) → told n ≡ pending.Held → IsAbove (patches_in nodes) (IsOpenNumber (patches_in nodes)) n
  held_above n e = elim (found nodes n) [
    | inl y ↦
        let l = lowest Node (λ x z. DependsOn (patches_in nodes) x.patch.number z.patch.number) (λ x z v r s. join r s) (λ x r. acyclic x.patch.number r)
        WaitsForGate (λ z. IsOpenGate z.patch) next_held nodes (λ x z k r. In-from_Contains nodes z k.head) y.node (record { head = y.head; held = sym y.told ∙ e }) in
        let gate : IsOpenNumber (patches_in nodes) l.0.patch.number = record { patch = l.0.patch; head = patch_in nodes l.0 l.1.head; numbered = refl; is_open = l.2 } in
        elim l.3 [
          | inl same ↦ inl (subst (IsOpenNumber (patches_in nodes)) (sym (ap (λ (z : Node). z.patch.number) same) ∙ y.numbered) gate)
          | inr below ↦ inr (l.0.patch.number, subst (λ k. DependsOn (patches_in nodes) k l.0.patch.number) y.numbered below, gate)
        ]
    | inr none ↦ absurd (let f = sym none ∙ e in cc)
  ]

  -- an open gate waits for itself, and what directly depends on what waits does too
  pub gate_held : (n : ℕ) → IsOpenNumber (patches_in nodes) n → told n ≡ pending.Held
  gate_held n g =
      let y = node_of_patch nodes g.patch g.head in
      let own : y.0.pending ≡ pending.Held = S.settled y.0 y.1 ∙ ap (λ k. of_kind k y.0.patch.place (joined told y.0.patch.dependencies)) (ap (λ r. r.kind) y.2 ∙ g.is_open) in
      ap told (sym g.numbered) ∙ (ap told (sym (ap (λ r. r.number) y.2)) ∙ (told_of nodes y.0 rising y.1 ∙ own))

  direct_held : (p q : ℕ) → DirectlyOn (patches_in nodes) p q → told q ≡ pending.Held → told p ≡ pending.Held
  direct_held p q d e =
      let y = node_of_patch nodes d.patch d.head in
      let named = subst (λ r. Contains r.dependencies q) (sym y.2) d.named in
      let live : y.0.patch.place ≡ place.Disk → ⊥ = λ disk.
      elim (found nodes q) [
        | inl f ↦
            let gone = (S.placed f.node f.head).1 (D.disk y.0.patch (patch_in nodes y.0 y.1) disk q named f.node.patch (patch_in nodes f.node f.head) f.numbered) in
            let g = sym (sym f.told ∙ e) ∙ gone in cc
        | inr none ↦ let g = sym none ∙ e in cc
      ] in
      let own = S.settled y.0 y.1 ∙ held_kind y.0.patch.kind y.0.patch.place (joined told y.0.patch.dependencies) live (held_row told y.0.patch.dependencies q (In-from_Contains y.0.patch.dependencies q named) e) in
      ap told (sym d.numbered) ∙ (ap told (sym (ap (λ r. r.number) y.2)) ∙ (told_of nodes y.0 rising y.1 ∙ own))

  pub depends_held : (p q : ℕ) → DependsOn (patches_in nodes) p q → told q ≡ pending.Held → told p ≡ pending.Held
  depends_held p q (one d) e = direct_held p q d e
  depends_held p q (join {q = r} c d) e = depends_held p r c (depends_held r q d e)

  -- what waits for an open gate is not on disk
  pub held_live : (n : ℕ) → told n ≡ pending.Held → IsLiveNumber (patches_in nodes) n
  held_live n e = elim (found nodes n) [
    | inl f ↦ record { patch = f.node.patch; head = patch_in nodes f.node f.head; numbered = f.numbered; live = λ d. let none = (S.placed f.node f.head).1 d in let told_it = f.told in cc }
    | inr none ↦ absurd (cc)
  ]

  -- a row waits for an open gate exactly where one is under it
  pub held_under : (row : List ℕ) → joined told row ≡ pending.Held → HasUnder (patches_in nodes) row (IsOpenNumber (patches_in nodes))
  held_under row e = let n = row_held told row e in (n.0, Contains-from_In row n.0 n.1, held_above n.0 n.2)

  pub under_held : (row : List ℕ) → HasUnder (patches_in nodes) row (IsOpenNumber (patches_in nodes)) → joined told row ≡ pending.Held
  under_held row u = held_row told row u.0 (In-from_Contains row u.0 u.1) (elim u.2 [
    | inl here ↦ gate_held u.0 here
    | inr below ↦ depends_held u.0 below.0 below.1 (gate_held below.0 below.2)
  ])

-- the same of heads
module _ (heads : List Head) (blocks : ℕ) (rising : HeadsRise heads) (acyclic : IsAcyclic (DirectlyOn (patches_of heads))) (D : IsOnDiskWithAll (patches_of heads)) (S : AreSettled (nodes_of heads) blocks) where
  pub heads_live : (n : ℕ) → pending_in (nodes_of heads) n ≡ pending.Held → IsLiveNumber (patches_of heads) n
  heads_live n e = rw (← patches_in_nodes heads)
      (held_live (nodes_of heads) blocks (rw (patches_in_nodes heads) (rising_patches heads rising)) (rw (patches_in_nodes heads) acyclic) (rw (patches_in_nodes heads) D) S n e)

  pub gate_under : (row : List ℕ) → joined (pending_in (nodes_of heads)) row ≡ pending.Held → HasUnder (patches_of heads) row (IsOpenNumber (patches_of heads))
  gate_under row e = rw (← patches_in_nodes heads)
      (held_under (nodes_of heads) blocks (rw (patches_in_nodes heads) (rising_patches heads rising)) (rw (patches_in_nodes heads) acyclic) (rw (patches_in_nodes heads) D) S row e)

  pub under_gate : (row : List ℕ) → HasUnder (patches_of heads) row (IsOpenNumber (patches_of heads)) → joined (pending_in (nodes_of heads)) row ≡ pending.Held
  under_gate row u =
      under_held (nodes_of heads) blocks (rw (patches_in_nodes heads) (rising_patches heads rising)) (rw (patches_in_nodes heads) acyclic) (rw (patches_in_nodes heads) D) S row (rw (patches_in_nodes heads) u)
