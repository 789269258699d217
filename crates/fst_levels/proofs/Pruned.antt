-- What the blocks need where some of it is left out, to which a walk need not go on.
use Rattle.std.proofs.Common.{◌≡◌, ◌<◌, ◌⊎◌, ◌∙◌, [], ℕ, List, Contains, map, set, length, get_or, sym, ap, subst, inl, inr}
use Rattle.std.proofs.lemmas.List.{length-map, length-set}
use Rattle.std.specs.Global.{Vec}
use Rattle.std.proofs.lemmas.Bool.{cases_eq}
use Rattle.fst_types.specs.{Facts.IsOnDiskWithAll, Patches.Patch}
use Rattle.fst_types.specs.declared.place.Place.TheVariants as place
use Rattle.fst_heads.specs.{Heads.{IsRising, patches_of}, Nodes.{AreSettled, nodes_of, node_of}, declared.head.Head.Head}
use Rattle.fst_heads.specs.declared.pending.Pending.TheVariants as pending
use Rattle.fst_heads.proofs.{Graded.off_to, Indices.{any_default, index_in, patch_index, some_element}, PendingAt.{node_in, pending_index}}
use Rattle.fst_levels.specs.Needing.{AreNeeded, IsLeft, IsPruned, IsSpared, IsStoodFor, StaysOn, needs_of}
use Rattle.fst_levels.proofs.{Low.{disk_or, own_low}, OneOfMany.{told_beside, told_here, told_was}, OwnBlock.number_stays, PutMore.numbers_in}

module _ (heads : List Head) (blocks : ℕ) (rising : IsRising heads) (disk : IsOnDiskWithAll (patches_of heads)) (settled : AreSettled (nodes_of heads) blocks) (b : ℕ) where
  -- nothing is pending of what is on disk
  on_disk_stays : (p : Patch) → Contains (patches_of heads) p → p.place ≡ place.Disk → StaysOn (patches_of heads) b p.number
  on_disk_stays p head there =
      let t = index_in heads p head in
      let d = some_element heads t.0 t.1 in
      let h = get_or heads t.0 d in
      let nothing : h.pending ≡ pending.Nothing = (settled.placed (node_of h) (node_in heads t.0 h t.1 (any_default heads t.0 d h t.1))).1 (ap (λ q. q.place) (t.2 d) ∙ there) in
      number_stays heads blocks rising disk settled b p.number (own_low b _ (inl (pending_index heads p.number t.0 d rising (patch_index heads p t.0 t.1 t.2) ∙ nothing)))

  -- a hard change for which one stood that is left out stays on the block itself, or is on disk as that is
  stands_still : (old new : List ℕ) → IsLeft (patches_of heads) b old new → (q : ℕ) → IsStoodFor (patches_of heads) b old q → IsSpared (patches_of heads) b new q
  stands_still old new left q s = elim s.by [
    | inl own ↦ inl (record { at = s.at; block = s.block; hard = s.hard; by = inl own })
    | inr n ↦ elim (left.kept n.0 n.1) [
      | inl k ↦ inl (record { at = s.at; block = s.block; hard = s.hard; by = inr (n.0, k, n.2) })
      | inr stays ↦ elim (cases_eq s.block b) [
        | inl own ↦ inl (record { at = s.at; block = s.block; hard = s.hard; by = inl own })
        | inr other ↦ elim (disk_or s.at) [
          | inl there ↦ inr (subst (StaysOn (patches_of heads) b) s.hard.numbered (on_disk_stays s.hard.patch s.hard.head (s.hard.place ∙ there)))
          | inr live ↦
              let h = n.2 in
              absurd (stays.own (inl (record { patch = h.patch; head = h.head; numbered = h.numbered; passed = off_to b h.patch.number s.block h.patch.kind h.patch.place (λ e. live (sym h.place ∙ e)) h.change other })))
        ]
      ]
    ]
  ]

  pub pruned_needed : (old new : List (List ℕ)) → IsPruned (patches_of heads) b old new → AreNeeded (patches_of heads) (needs_of old) → AreNeeded (patches_of heads) (needs_of new)
  pruned_needed old new P N = record {
    named = λ c n k. N.named c n (elim (cases_eq c b) [
      | inl e ↦ subst (λ d. Contains (needs_of old d) n) (sym e) (P.left.only n (subst (λ d. Contains (needs_of new d) n) e k))
      | inr o ↦ subst (λ ns. Contains ns n) (P.others c o) k
    ]);
    whole = λ c h q hard head d. elim (cases_eq c b) [
      | inl e ↦
          let told : Contains (needs_of old b) q.number ⊎ IsSpared (patches_of heads) b (needs_of old b) q.number = subst (λ a. Contains (needs_of old a) q.number ⊎ IsSpared (patches_of heads) a (needs_of old a) q.number) e (N.whole c h q hard head d) in
          subst (λ a. Contains (needs_of new a) q.number ⊎ IsSpared (patches_of heads) a (needs_of new a) q.number) (sym e) (elim told [
            | inl k ↦ elim (P.left.kept q.number k) [ inl still ↦ inl still | inr stays ↦ inr (inr stays) ]
            | inr spared ↦ inr (elim spared [ inl s ↦ stands_still (needs_of old b) (needs_of new b) P.left q.number s | inr stays ↦ inr stays ])
          ])
      | inr o ↦ subst (λ ns. Contains ns q.number ⊎ IsSpared (patches_of heads) c ns q.number) (sym (P.others c o)) (N.whole c h q hard head d)
    ];
  }

-- one of many lists of needs, of which some is left out
pub pruned_here : (patches : List Patch) (xs : List (Vec ℕ)) (k : ℕ) (was now : Vec ℕ) → k < length xs → was ≡ get_or xs k was → IsLeft patches k was.items now.items → IsPruned patches k (map numbers_in xs) (map numbers_in (set xs k now))
pruned_here patches xs k was now lt is left = record {
  long = length-map (set xs k now) numbers_in ∙ (length-set xs k now ∙ sym (length-map xs numbers_in));
  others = λ c other. told_beside numbers_in xs k now c [] other;
  left = rw (told_was numbers_in xs k was [] lt is, told_here numbers_in xs k now [] lt) left;
}
