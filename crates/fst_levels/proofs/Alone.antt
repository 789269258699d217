-- A change in memory of which changes of its block in memory alone are pending is in the writable set of the block.
use Rattle.std.proofs.lemmas.Option.{same_Some}
use Rattle.std.proofs.Common.{◌≡◌, ◌⊎◌, ℕ, List, Contains, refl, sym, ap, subst, ◌∙◌, inl, inr}
use Rattle.fst_types.specs.{Closure.{one, join}, Dependencies.{DirectlyOn, DependsOn}, Facts.SparseAreLawful}
use Rattle.fst_types.specs.{Patches.{Patch, IsOn, IsOpenGate, block_of_kind}, Writable.{IsInMemoryOn, InWritableSet}}
use Rattle.fst_types.proofs.Finite.{In-from_Contains, decided_not, search_list, lowest}
use Rattle.fst_heads.specs.{Nodes.{Node, patches_in, pending_in, AreSettled}, Pendings.{joined, Sinks}, declared.pending.Pending.Pending}
use Rattle.fst_heads.proofs.{Joining.sinks_block, PendingIn.{found, told_of}, Placed.patch_in, Sums.joined_all_below}
use Rattle.fst_levels.proofs.Low.{low_node, low_depends, low_above, low_change, low_decided, gate_low, block_change, change_block}
use Rattle.fst_types.specs.declared.place.Place.TheVariants as place
use Rattle.fst_heads.specs.declared.pending.Pending.TheVariants as pending

module _ (nodes : List Node) (numbers blocks : ℕ) (H : SparseAreLawful (patches_in nodes) numbers) (S : AreSettled nodes blocks) (b : ℕ) where
  abbrev told : ℕ → Pending
  told = pending_in nodes

  abbrev IsLow : Pending → Type 0
  IsLow p = Sinks (pending.Block b) p

  -- the node of what it depends on has no more pending
  below_node : (x : Node) → Contains nodes x → IsLow x.pending → (q : Patch) → Contains (patches_in nodes) q → DependsOn (patches_in nodes) x.patch.number q.number → (y : Node) × Contains nodes y × (y.patch ≡ q) × IsLow y.pending
  below_node x c low q h d =
      let rising = H.one_place_each.rising in
      low_node (pending.Block b) nodes blocks rising H.on_disk_with_all S q h
      (low_depends (pending.Block b) nodes blocks rising H.on_disk_with_all S x.patch.number q.number d (subst IsLow (sym (told_of nodes x rising c)) low))

  -- such a change is on disk, or in memory on the block
  low_place : (c : ℕ) (y : Node) → Contains nodes y → IsOn y.patch c → IsLow y.pending → (y.patch.place ≡ place.Disk) ⊎ IsInMemoryOn (patches_in nodes) b y.patch
  low_place c y h on low =
      elim (block_change b c y.patch.place (low_change (pending.Block b) c y.patch.kind y.patch.place (joined told y.patch.dependencies) on (subst IsLow (S.settled y h) low))) [
        | inl disk ↦ inl disk
        | inr own ↦ inr (record { head = patch_in nodes y h; change = subst (IsOn y.patch) own.1 on; memory = own.0 })
      ]

  pub waits_in : (x : Node) → Contains nodes x → IsInMemoryOn (patches_in nodes) b x.patch → x.pending ≡ pending.Block b → InWritableSet (patches_in nodes) b x.patch
  waits_in x c m e =
      let low : IsLow x.pending = rw e (change_block b b place.Memory (inr (refl, refl))) in
      record {
        in_memory = m;
        free = λ k.
            let y = below_node x c low k.gate k.head k.depends in
            let held = gate_low (pending.Block b) nodes blocks H.one_place_each.rising H.on_disk_with_all S y.0 y.1 (ap (λ r. r.kind) y.2 ∙ k.is_open) y.3 in
            cc;
        needs = λ q on n.
            let y = below_node x c low q n.head n.depends in
            subst (λ r. (r.place ≡ place.Disk) ⊎ IsInMemoryOn (patches_in nodes) b r) y.2 (low_place on y.0 y.1 (subst (λ r. IsOn r on) (sym y.2) n.change) y.3);
      }

  -- at or below the patch, and more is pending of it than changes of the block in memory
  record IsHigh (p : Patch) (y : Node) : Type 0 where
    head : Contains nodes y
    high : IsLow y.pending → ⊥
    below : (y.patch ≡ p) ⊎ DependsOn (patches_in nodes) p.number y.patch.number

  module _ (p : Patch) (w : InWritableSet (patches_in nodes) b p) where
    no_gate : (y : Node) → IsHigh p y → IsOpenGate y.patch → ⊥
    no_gate y h gate = elim h.below [
      | inl same ↦ let on = w.in_memory.change in let k = ap (λ r. block_of_kind r.kind) same in let none = ap block_of_kind gate in cc
      | inr d ↦ w.free (record { gate = y.patch; head = patch_in nodes y h.head; is_open = gate; depends = d })
    ]

    own_change : (y : Node) → IsHigh p y → (c : ℕ) → IsOn y.patch c → (y.patch.place ≡ place.Disk) ⊎ ((y.patch.place ≡ place.Memory) × (c ≡ b))
    own_change y h c on = elim h.below [
      | inl same ↦ inr (ap (λ r. r.place) same ∙ w.in_memory.memory, same_Some c b (sym on ∙ (ap (λ r. block_of_kind r.kind) same ∙ w.in_memory.change)))
      | inr d ↦ elim (w.needs y.patch c (record { head = patch_in nodes y h.head; change = on; depends = d })) [
        | inl disk ↦ inl disk
        | inr m ↦ inr (m.memory, same_Some c b (sym on ∙ m.change))
      ]
    ]

    below_high : (y z : Node) → IsHigh p y → DirectlyOn (patches_in nodes) y.patch.number z.patch.number → DependsOn (patches_in nodes) p.number z.patch.number
    below_high y z h d = elim h.below [
      | inl same ↦ one (subst (λ (r : Patch). DirectlyOn (patches_in nodes) r.number z.patch.number) same d)
      | inr c ↦ join c (one d)
    ]

    -- below what is high there is such again
    next_high : (y : Node) → IsHigh p y → ⊥ ⊎ ((z : Node) × IsHigh p z × DependsOn (patches_in nodes) y.patch.number z.patch.number)
    next_high y h = elim (search_list (λ n. IsLow (told n) → ⊥) y.patch.dependencies (λ n. decided_not (low_decided (pending.Block b) (told n)))) [
      | inl f ↦ elim (found nodes f.0) [
        | inl z ↦
            let d : DirectlyOn (patches_in nodes) y.patch.number z.node.patch.number = record { patch = y.patch; head = patch_in nodes y h.head; numbered = refl; named = subst (Contains y.patch.dependencies) (sym z.numbered) f.1 } in
            inr (z.node, record { head = z.head; high = λ low. f.2 (subst IsLow (sym z.told) low); below = inr (below_high y z.node h d) }, one d)
        | inr none ↦ absurd (f.2 (rw none refl))
      ]
      | inr all ↦
          let row = joined_all_below told y.patch.dependencies (pending.Block b) (λ n c. elim (low_decided (pending.Block b) (told n)) [ inl low ↦ low | inr high ↦ absurd (all n c high) ]) in
          absurd (h.high (subst IsLow (sym (S.settled y h.head))
          (low_above (pending.Block b) y.patch.kind y.patch.place (joined told y.patch.dependencies) row (no_gate y h) (λ c on. change_block b c y.patch.place (own_change y h c on)))))
    ]

    none_high : (y : Node) → IsHigh p y → ⊥
    none_high y h =
        let l = lowest Node (λ x z. DependsOn (patches_in nodes) x.patch.number z.patch.number) (λ x z v r s. join r s) (λ x r. H.no_cycle x.patch.number r)
        (IsHigh p) (λ z. ⊥) next_high nodes (λ x z k r. In-from_Contains nodes z k.head) y h in
        l.2

  pub waits_out : (x : Node) → Contains nodes x → InWritableSet (patches_in nodes) b x.patch → x.pending ≡ pending.Block b
  waits_out x c w = elim (low_decided (pending.Block b) x.pending) [
    | inl low ↦ elim (sinks_block b x.pending low) [
      | inl none ↦ absurd (let disk = (S.placed x c).0 none in let memory = w.in_memory.memory in cc)
      | inr own ↦ own
    ]
    | inr high ↦ absurd (none_high x.patch w x (record { head = c; high = high; below = inl refl }))
  ]
