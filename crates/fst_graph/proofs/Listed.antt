-- The lists of the blocks where a patch is made.
use Rattle.std.proofs.Common.{◌≡◌, ℕ, ◌<◌, ◌==◌, ◌&&◌, false, cond, List, [], ◌∷◌, ◌++◌, set, get_or, refl, sym, ap, subst, ◌∙◌, inl, inr, arith, get_or-set_same, get_or-set_other}
use Rattle.std.proofs.Math.Bool.{and-false}
use Rattle.std.proofs.Math.ListN.{length-set}
use Rattle.std.proofs.lemmas.{Bool.{cases_Bool, cases_eq, eq-eqb, ne_eqb}, List.append-nil}
use Rattle.fst_types.specs.{Dependencies.IsLiveNumber, Patches.{Change, Patch}, Tests.{is_on, is_live}, declared.grade.Grade.Grade}
use Rattle.fst_heads.specs.{Lists.{Entry, entry, entries_on, AreListed, is_live_on}, Nodes.{Node, patches_in}, Rows.IsDependency}
use Rattle.fst_heads.proofs.{Added.with_node, Touching.touch_parts}
use Rattle.fst_levels.proofs.Linked.{patches_made}
use Rattle.fst_types.specs.declared.place.Place.TheVariants as place

-- the list of a block with one patch more
entries_more : (b : ℕ) (ps : List Patch) (p : Patch) → entries_on b (ps ++ p ∷ []) ≡ entries_on b ps ++ cond (is_live_on b p) (entry p ∷ []) []
entries_more b [] p = elim (cases_Bool (is_live_on b p)) [ inl e ↦ rw e refl | inr e ↦ rw e refl ]
entries_more b (q ∷ qs) p = let rest = entries_more b qs p in elim (cases_Bool (is_live_on b q)) [ inl e ↦ rw (e, rest) refl | inr e ↦ rw (e, rest) refl ]

pub listed_made : (nodes : List Node) (blocks : ℕ) (lists : List (List Entry)) (p : Patch)
    → AreListed (patches_in nodes) blocks lists → ((b : ℕ) → is_on b p.kind ≡ false)
    → AreListed (patches_in (with_node nodes p)) blocks lists
listed_made nodes blocks lists p L other = record {
  long = L.long;
  each = λ b d inside. L.each b d inside ∙ sym (ap (entries_on b) (patches_made nodes p) ∙ (entries_more b (patches_in nodes) p ∙ (ap (λ t. entries_on b (patches_in nodes) ++ cond t (entry p ∷ []) []) (ap (λ t. is_live p && t) (other b) ∙ and-false (is_live p)) ∙ append-nil (entries_on b (patches_in nodes)))));
}

-- a change in memory is live on its block alone
change_on : (p : Patch) (b at len : ℕ) (grade : Grade) → p.kind ≡ Change b at len grade → p.place ≡ place.Memory → (c : ℕ) → is_live_on c p ≡ (b == c)
change_on p b at len grade kind memory c = rw (kind, memory) refl

pub listed_change : (nodes : List Node) (blocks : ℕ) (lists : List (List Entry)) (p : Patch) (b at len : ℕ) (grade : Grade) (d : List Entry)
    → AreListed (patches_in nodes) blocks lists → p.kind ≡ Change b at len grade → p.place ≡ place.Memory → b < blocks
    → AreListed (patches_in (with_node nodes p)) blocks (set lists b (get_or lists b d ++ entry p ∷ []))
listed_change nodes blocks lists p b at len grade d L kind memory inside = record {
  long = length-set lists b _ ∙ L.long;
  each = λ c e within.
      let here = sym (ap (entries_on c) (patches_made nodes p) ∙ (entries_more c (patches_in nodes) p ∙ ap (λ t. entries_on c (patches_in nodes) ++ cond t (entry p ∷ []) []) (change_on p b at len grade kind memory c))) in
      elim (cases_eq c b) [
        | inl same ↦
            let own = get_or-set_same lists b (get_or lists b d ++ entry p ∷ []) e (omega (arith, inside, L.long)) in
            let old = ap (λ es. es ++ entry p ∷ []) (L.each b d inside) in
            let test = ap (λ t. entries_on b (patches_in nodes) ++ cond t (entry p ∷ []) []) (eq-eqb b b refl) in
            subst (λ k. get_or (set lists b (get_or lists b d ++ entry p ∷ [])) k e ≡ entries_on k (patches_in (with_node nodes p))) (sym same)
            (own ∙ (old ∙ (sym test ∙ subst (λ k. entries_on k (patches_in nodes) ++ cond (b == k) (entry p ∷ []) [] ≡ entries_on k (patches_in (with_node nodes p))) same here)))
        | inr ne ↦
            get_or-set_other lists b c (get_or lists b d ++ entry p ∷ []) e ne
            ∙ (L.each c e within ∙ (sym (append-nil (entries_on c (patches_in nodes))) ∙ (ap (λ t. entries_on c (patches_in nodes) ++ cond t (entry p ∷ []) []) (sym (ne_eqb b c (λ o. ne (sym o)))) ∙ here)))
      ];
}

-- what a new change depends on is live
pub live_dependency : (heads : List Patch) (names : List ℕ) (b at len n : ℕ) → IsDependency heads names b at len n → IsLiveNumber heads n
live_dependency heads names b at len n d = elim d [
  | inl k ↦ k.0
  | inr t ↦ record { patch = t.patch; head = t.head; numbered = t.numbered; live = (touch_parts b at len t.patch.kind t.patch.place t.shares).0 }
]
