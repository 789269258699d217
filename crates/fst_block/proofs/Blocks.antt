-- A block keeps what it has to, call by call.
use Rattle.std.proofs.Common.{◌≡◌, ℕ, suc, ◌+◌, ◌-◌, ◌*◌, ◌^◌, ◌<◌, ◌≤◌, List, [], ◌∷◌, ◌++◌, length, take, drop, All, refl, sym, ap, subst, ◌∙◌, arith}
use Rattle.std.proofs.lemmas.List.{map-append, length-map, take_at}
use Rattle.std.proofs.lemmas.List.Elements.{All-head, All-tail}
use Rattle.std.proofs.lemmas.List.Sums.{sum_by_push}
use Rattle.fst_types.specs.declared.number.PatchNo.{PatchNo}
use Rattle.fst_types.specs.declared.grade.Grade.{Grade}
use Rattle.fst_types.specs.declared.grade.Grade.TheVariants as grade
use Rattle.fst_types.specs.Fold.{written}
use Rattle.fst_block.specs.BlockView.{BlockPatch, write_of, fold_of, len_if_soft, soft_lengths}
use Rattle.fst_block.specs.Choices.{is_chosen, chosen_of, others_of}
use Rattle.fst_block.specs.Reverts.{Entry, patches_of, entries_left, FitsIn}
use Rattle.fst_block.specs.Kept.{undo_of, KeepsUndo, IsPlaced, ArePlaced, IsKept}
use Rattle.fst_block.proofs.Takes.{soft_lengths-cons}
use Rattle.fst_block.proofs.Apart.{length-fold_of}
use Rattle.fst_block.proofs.Undo.{IsClosed, all_fit, all_fit-filter, fits-entries, fold_of-parts, undoes-parts, placed-others, patches_of-entries, soft_lengths-parts}

fold_of_push : (base : List ℕ) (ps : List BlockPatch) (p : BlockPatch) → fold_of base (ps ++ p ∷ []) ≡ written (fold_of base ps) (write_of p)
fold_of_push base [] p = refl
fold_of_push base (o ∷ ps) p = fold_of_push (written base (write_of o)) ps p

undoes_push : (base : List ℕ) (es : List Entry) (p : BlockPatch) (q : List ℕ) → KeepsUndo base es → q ≡ undo_of (fold_of base (patches_of es)) p → KeepsUndo base (es ++ (p, q) ∷ [])
undoes_push base [] p q undoes is_undo = (is_undo, tt)
undoes_push base (e ∷ es) p q undoes is_undo = (undoes.0, undoes_push (written base (write_of e.0)) es p q undoes.1 is_undo)

placed_push : (n least : ℕ) (ps : List BlockPatch) (p : BlockPatch) → ArePlaced n least ps → All (λ o. o.number < p.number) ps → IsPlaced n least p → ArePlaced n least (ps ++ p ∷ [])
placed_push n least [] p placed newest last = (last, tt)
placed_push n least (o ∷ ps) p placed newest last = (
  placed.0,
  placed_push n (suc o.number) ps p placed.1 (All-tail (λ r. r.number < p.number) o ps newest)
      (record { inside = last.inside; same_length = last.same_length; short = last.short; in_order = All-head (λ r. r.number < p.number) o ps newest }),
)

-- numbers that rise below m are no more than m
placed_few : (n least m : ℕ) (ps : List BlockPatch) → ArePlaced n least ps → All (λ p. p.number < m) ps → least ≤ m → length ps + least ≤ m
placed_few n least m [] placed newest h = omega arith
placed_few n least m (p ∷ ps) placed newest h =
    let first = All-head (λ r. r.number < m) p ps newest in
    let rest = placed_few n (suc p.number) m ps placed.1 (All-tail (λ r. r.number < m) p ps newest) (omega (arith, first)) in
    omega (arith, rest, placed.0.in_order)

softly : (g : Grade) (len : ℕ) → len_if_soft g len ≤ len
softly grade.Soft len = omega arith
softly grade.Hard len = omega arith

soft_few : (n least : ℕ) (ps : List BlockPatch) → ArePlaced n least ps → soft_lengths ps ≤ length ps * 4294967295
soft_few n least [] placed = omega arith
soft_few n least (p ∷ ps) placed =
    let rest = soft_few n (suc p.number) ps placed.1 in
    omega (arith, rest, soft_lengths-cons p ps, softly p.grade p.span.len, placed.0.short)

module _ (base bytes : List ℕ) (es : List Entry) (undo : ℕ) (kept : IsKept base bytes es undo) where
  -- the block is as long as its base
  pub same_size : length bytes ≡ length base
  same_size = ap length kept.stands ∙ length-fold_of base (patches_of es) (all_fit (length base) 0 (patches_of es) kept.placed)

  pub fits : FitsIn (length bytes) es
  fits = subst (λ n. FitsIn n es) (sym same_size) (fits-entries base 0 es kept.undoes kept.placed)

  -- after the chosen patches are taken out
  pub launched : (chosen : List PatchNo) (new_base : List ℕ) (left : List Entry) (gone : ℕ) → IsClosed (is_chosen chosen) (patches_of es)
      → new_base ≡ fold_of base (chosen_of chosen (patches_of es)) → left ≡ entries_left chosen es → gone ≡ soft_lengths (chosen_of chosen (patches_of es))
      → IsKept new_base bytes left (undo - gone)
  launched chosen new_base left gone closed is_base is_left is_gone =
      let ps = patches_of es in
      let among = ap patches_of is_left ∙ patches_of-entries (is_chosen chosen) es in
      let size : length new_base ≡ length base =
      ap length is_base ∙ length-fold_of base (chosen_of chosen ps) (all_fit-filter (length base) (is_chosen chosen) ps (all_fit (length base) 0 ps kept.placed)) in
      record {
        stands = kept.stands ∙ (sym (fold_of-parts (is_chosen chosen) base 0 ps kept.placed closed) ∙ (ap (λ b. fold_of b (others_of chosen ps)) (sym is_base) ∙ ap (fold_of new_base) (sym among)));
        undoes = subst (λ b. KeepsUndo b left) (sym is_base) (subst (KeepsUndo (fold_of base (chosen_of chosen ps))) (sym is_left) (undoes-parts (is_chosen chosen) base 0 es kept.undoes kept.placed closed));
        placed = subst (λ n. ArePlaced n 0 (patches_of left)) (sym size) (subst (ArePlaced (length base) 0) (sym among) (placed-others (is_chosen chosen) (length base) 0 ps kept.placed));
        counted = omega (arith, kept.counted, is_gone, ap soft_lengths among, soft_lengths-parts (is_chosen chosen) ps);
      }

  -- after a patch is applied
  pub applied : (p : BlockPatch) (new_bytes q : List ℕ) → p.span.at + p.span.len ≤ length base → length p.bytes ≡ p.span.len → p.span.len < 2 ^ 32 → All (λ o. o.number < p.number) (patches_of es)
      → new_bytes ≡ written bytes (write_of p) → q ≡ undo_of bytes p
      → IsKept base new_bytes (es ++ (p, q) ∷ []) (undo + len_if_soft p.grade p.span.len)
  applied p new_bytes q inside same_length short newest is_written is_undo =
      let ps = patches_of es in
      let among = map-append (λ (e : Entry). e.0) es ((p, q) ∷ []) in
      let sum = ap soft_lengths among in
      record {
        stands = is_written ∙ (ap (λ b. written b (write_of p)) kept.stands ∙ (sym (fold_of_push base ps p) ∙ ap (fold_of base) (sym among)));
        undoes = undoes_push base es p q kept.undoes (is_undo ∙ ap (λ b. undo_of b p) kept.stands);
        placed = subst (ArePlaced (length base) 0) (sym among) (placed_push (length base) 0 ps p kept.placed newest (record { inside = inside; same_length = same_length; short = short; in_order = omega arith }));
        counted = omega (arith, kept.counted, sum, sum_by_push (λ (o : BlockPatch). len_if_soft o.grade o.span.len) ps p);
      }

  -- patches with numbers below one of 32 bits, and what they keep, can be counted
  pub countable : (m : ℕ) → m < 2 ^ 32 → All (λ p. p.number < m) (patches_of es) → length es + 1 < 2 ^ 64
  countable m small newest = omega (arith, placed_few (length base) 0 m (patches_of es) kept.placed newest (omega arith), length-map es (λ (e : Entry). e.0))

  pub undo_bounded : (m : ℕ) → m < 2 ^ 32 → All (λ p. p.number < m) (patches_of es) → (len : ℕ) → len < 2 ^ 32 → undo + len < 2 ^ 64
  undo_bounded m small newest len short =
      omega (arith, kept.counted, soft_few (length base) 0 (patches_of es) kept.placed, placed_few (length base) 0 m (patches_of es) kept.placed newest (omega arith))

-- a vector's bytes after they were written as a slice
pub written_through : (n : ℕ) (new old : List ℕ) → length new ≡ n → take n (new ++ drop (length new) old) ≡ new
written_through n new old e = take_at new (drop (length new) old) n e

pub same_kept : {base : List ℕ} (bytes bytes' : List ℕ) (es es' : List Entry) (undo undo' : ℕ) → bytes ≡ bytes' → es ≡ es' → undo ≡ undo' → IsKept base bytes es undo → IsKept base bytes' es' undo'
same_kept {base} bytes bytes' es es' undo undo' b e u kept = subst (IsKept base bytes' es') u (subst (λ xs. IsKept base bytes' xs undo) e (subst (λ bs. IsKept base bs es undo) b kept))
