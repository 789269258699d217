-- What reverting and launching mean for a block that keeps what each patch's span held before it.
use Rattle.std.proofs.Common.{◌≡◌, ℕ, suc, ◌+◌, ◌≤◌, Bool, true, false, not, cond, List, [], ◌∷◌, ◌++◌, length, take, drop, filter, refl, sym, ap, subst, ◌∙◌, inl, inr, arith}
use Rattle.std.proofs.lemmas.Bool.{cases_Bool}
use Rattle.fst_types.specs.declared.grade.Grade.{Grade}
use Rattle.fst_types.specs.declared.grade.Grade.TheVariants as grade
use Rattle.fst_types.specs.declared.span.Span.{Span}
use Rattle.fst_types.specs.Fold.{written}
use Rattle.fst_block.specs.BlockView.{BlockPatch, write_of, fold_of, len_if_soft, soft_lengths}
use Rattle.fst_block.specs.Reverts.{Entry, patches_of, bytes_after, reverted, FitsIn}
use Rattle.fst_block.specs.Kept.{undo_of, KeepsUndo, IsPlaced, ArePlaced}
use Rattle.fst_block.proofs.Walks.{put_length}
use Rattle.fst_block.proofs.Takes.{soft_lengths-cons}
use Rattle.fst_block.proofs.Apart.{range_of, length-range_of, undone, Fits, AllFit, fit_along, NoneShares, written_keeps_length, fold_apart, range-fold_of}

-- a patch that is left out is soft, and shares no byte with a later one that is chosen
abbrev pub IsClosed : (BlockPatch → Bool) → List BlockPatch → Type 0
IsClosed chosen [] = Unit {0}
IsClosed chosen (p ∷ ps) = (chosen p ≡ false → (p.grade ≡ grade.Soft) × NoneShares p (filter chosen ps)) × IsClosed chosen ps

pub fits_of : {n least : ℕ} (p : BlockPatch) → IsPlaced n least p → Fits n p
fits_of p placed = (placed.inside, placed.same_length)

pub all_fit : (n least : ℕ) (ps : List BlockPatch) → ArePlaced n least ps → AllFit n ps
all_fit n least [] placed = tt
all_fit n least (p ∷ ps) placed = (fits_of p placed.0, all_fit n (suc p.number) ps placed.1)

pub all_fit-filter : (n : ℕ) (chosen : BlockPatch → Bool) (ps : List BlockPatch) → AllFit n ps → AllFit n (filter chosen ps)
all_fit-filter n chosen [] fs = tt
all_fit-filter n chosen (p ∷ ps) fs =
    let rest = all_fit-filter n chosen ps fs.1 in
    elim (chosen p) as (λ b. AllFit n (cond b (p ∷ filter chosen ps) (filter chosen ps))) [ true ↦ (fs.0, rest) | false ↦ rest ]

module _ (chosen : BlockPatch → Bool) where
  bytes_after_length : (t : Bool) (b : List ℕ) (e : Entry) → e.0.span.at + length e.1 ≤ length b → length (bytes_after t b e) ≡ length b
  bytes_after_length true b e h = refl
  bytes_after_length false b e h = put_length b e h

  pub reverted_length : (bytes : List ℕ) (es : List Entry) → FitsIn (length bytes) es → length (reverted chosen bytes es) ≡ length bytes
  reverted_length bytes [] fits = refl
  reverted_length bytes (e ∷ es) fits =
      let same = reverted_length bytes es fits.1 in
      bytes_after_length (chosen e.0) (reverted chosen bytes es) e (omega (arith, same, fits.0)) ∙ same

  chosen_first : (p : BlockPatch) (ps : List BlockPatch) → chosen p ≡ true → filter chosen (p ∷ ps) ≡ p ∷ filter chosen ps
  chosen_first p ps h = rw h refl

  left_first : (p : BlockPatch) (ps : List BlockPatch) → chosen p ≡ false → filter chosen (p ∷ ps) ≡ filter chosen ps
  left_first p ps h = rw h refl

  -- what a soft patch keeps, over the base with later patches that share no byte with it, gives that base with these patches alone
  left_out : (base : List ℕ) (p : BlockPatch) (qs : List BlockPatch) → Fits (length base) p → AllFit (length base) qs → NoneShares p qs
      → bytes_after false (fold_of (written base (write_of p)) qs) (p, range_of base p.span.at p.span.len) ≡ fold_of base qs
  left_out base p qs fp fs none =
      let old = range_of base p.span.at p.span.len in
      let size = length-range_of base p.span.at p.span.len fp.0 in
      let still : BlockPatch = record { number = p.number; span = p.span; grade = p.grade; bytes = old } in
      let same = written_keeps_length base p fp in
      let base' = written base (write_of p) in
      let at = p.span.at in
      let back : written base' (write_of still) ≡ base =
      ap (λ n. take at base' ++ old ++ drop (at + n) base') (size ∙ sym fp.1)
      ∙ (ap (λ n. take at base' ++ range_of base at n ++ drop (at + length p.bytes) base') (sym fp.1)
      ∙ undone base p.bytes at (length p.bytes) (omega (arith, fp.0, fp.1)) refl) in
      sym (fold_apart base' still qs (omega (arith, same, fp.0), size) (fit_along (length base) (length base') qs (sym same) fs) none)
      ∙ ap (λ b. fold_of b qs) back

  -- the block's bytes with what is not chosen reverted are the base with what is chosen
  pub image_is : (base bytes : List ℕ) (least : ℕ) (es : List Entry) → bytes ≡ fold_of base (patches_of es) → KeepsUndo base es → ArePlaced (length base) least (patches_of es) → IsClosed chosen (patches_of es)
      → reverted chosen bytes es ≡ fold_of base (filter chosen (patches_of es))
  image_is base bytes least [] stands undoes placed closed = stands
  image_is base bytes least (e ∷ es) stands undoes placed closed =
      let base' = written base (write_of e.0) in
      let fits = fits_of e.0 placed.0 in
      let same = written_keeps_length base e.0 fits in
      let placed' = subst (λ n. ArePlaced n (suc e.0.number) (patches_of es)) (sym same) placed.1 in
      let rest = image_is base' bytes (suc e.0.number) es stands undoes.1 placed' closed.1 in
      elim (cases_Bool (chosen e.0)) [
        | inl taken ↦ ap (λ t. bytes_after t (reverted chosen bytes es) e) taken ∙ (rest ∙ ap (fold_of base) (sym (chosen_first e.0 (patches_of es) taken)))
        | inr stays ↦
            let soft = closed.0 stays in
            let kept : e.1 ≡ range_of base e.0.span.at e.0.span.len = undoes.0 ∙ ap (λ g. range_of base e.0.span.at (len_if_soft g e.0.span.len)) soft.0 in
            ap (λ t. bytes_after t (reverted chosen bytes es) e) stays
            ∙ (ap (λ b. bytes_after false b e) rest
            ∙ (ap (λ q. bytes_after false (fold_of base' (filter chosen (patches_of es))) (e.0, q)) kept
            ∙ (left_out base e.0 (filter chosen (patches_of es)) fits (all_fit-filter (length base) chosen (patches_of es) (all_fit (length base) (suc e.0.number) (patches_of es) placed.1)) soft.1
            ∙ ap (fold_of base) (sym (left_first e.0 (patches_of es) stays)))))
      ]

  -- the patches that are not chosen
  abbrev pub others : List BlockPatch → List BlockPatch
  others ps = filter (λ p. not (chosen p)) ps

  abbrev pub entries : List Entry → List Entry
  entries es = filter (λ e. not (chosen e.0)) es

  pub patches_of-entries : (es : List Entry) → patches_of (entries es) ≡ others (patches_of es)
  patches_of-entries [] = refl
  patches_of-entries (e ∷ es) =
      let rest = patches_of-entries es in
      elim (chosen e.0) as (λ b. patches_of (cond (not b) (e ∷ entries es) (entries es)) ≡ cond (not b) (e.0 ∷ others (patches_of es)) (others (patches_of es))) [
        | true ↦ rest
        | false ↦ ap (λ ps. e.0 ∷ ps) rest
      ]

  others_taken : (p : BlockPatch) (ps : List BlockPatch) → chosen p ≡ true → others (p ∷ ps) ≡ others ps
  others_taken p ps h = rw h refl

  others_first : (p : BlockPatch) (ps : List BlockPatch) → chosen p ≡ false → others (p ∷ ps) ≡ p ∷ others ps
  others_first p ps h = rw h refl

  entries_taken : (e : Entry) (es : List Entry) → chosen e.0 ≡ true → entries (e ∷ es) ≡ entries es
  entries_taken e es h = rw h refl

  entries_first : (e : Entry) (es : List Entry) → chosen e.0 ≡ false → entries (e ∷ es) ≡ e ∷ entries es
  entries_first e es h = rw h refl

  -- all patches in order are the chosen ones first, and the others over them
  pub fold_of-parts : (base : List ℕ) (least : ℕ) (ps : List BlockPatch) → ArePlaced (length base) least ps → IsClosed chosen ps → fold_of (fold_of base (filter chosen ps)) (others ps) ≡ fold_of base ps
  fold_of-parts base least [] placed closed = refl
  fold_of-parts base least (p ∷ ps) placed closed =
      let base' = written base (write_of p) in
      let fits = fits_of p placed.0 in
      let same = written_keeps_length base p fits in
      let placed' = subst (λ n. ArePlaced n (suc p.number) ps) (sym same) placed.1 in
      let rest = fold_of-parts base' (suc p.number) ps placed' closed.1 in
      elim (cases_Bool (chosen p)) [
        | inl taken ↦
            ap (λ qs. fold_of (fold_of base qs) (others (p ∷ ps))) (chosen_first p ps taken)
            ∙ (ap (fold_of (fold_of base' (filter chosen ps))) (others_taken p ps taken) ∙ rest)
        | inr stays ↦
            ap (λ qs. fold_of (fold_of base qs) (others (p ∷ ps))) (left_first p ps stays)
            ∙ (ap (fold_of (fold_of base (filter chosen ps))) (others_first p ps stays)
            ∙ (ap (λ b. fold_of b (others ps)) (sym (fold_apart base p (filter chosen ps) fits (all_fit-filter (length base) chosen ps (all_fit (length base) (suc p.number) ps placed.1)) (closed.0 stays).1))
            ∙ rest))
      ]

  -- the others keep what their spans held before them over the new base
  pub undoes-parts : (base : List ℕ) (least : ℕ) (es : List Entry) → KeepsUndo base es → ArePlaced (length base) least (patches_of es) → IsClosed chosen (patches_of es)
      → KeepsUndo (fold_of base (filter chosen (patches_of es))) (entries es)
  undoes-parts base least [] undoes placed closed = tt
  undoes-parts base least (e ∷ es) undoes placed closed =
      let ps = patches_of es in
      let base' = written base (write_of e.0) in
      let fits = fits_of e.0 placed.0 in
      let same = written_keeps_length base e.0 fits in
      let placed' = subst (λ n. ArePlaced n (suc e.0.number) ps) (sym same) placed.1 in
      let rest = undoes-parts base' (suc e.0.number) es undoes.1 placed' closed.1 in
      elim (cases_Bool (chosen e.0)) [
        | inl taken ↦
            subst (λ qs. KeepsUndo (fold_of base qs) (entries (e ∷ es))) (sym (chosen_first e.0 ps taken)) (subst (KeepsUndo (fold_of base' (filter chosen ps))) (sym (entries_taken e es taken)) rest)
        | inr stays ↦
            let free = closed.0 stays in
            let fit = all_fit-filter (length base) chosen ps (all_fit (length base) (suc e.0.number) ps placed.1) in
            let over = fold_apart base e.0 (filter chosen ps) fits fit free.1 in
            let below = range-fold_of base e.0 (filter chosen ps) placed.0.inside fit free.1 in
            let kept : e.1 ≡ undo_of (fold_of base (filter chosen ps)) e.0 =
            undoes.0 ∙ (ap (λ g. range_of base e.0.span.at (len_if_soft g e.0.span.len)) free.0 ∙ (sym below ∙ ap (λ g. range_of (fold_of base (filter chosen ps)) e.0.span.at (len_if_soft g e.0.span.len)) (sym free.0))) in
            subst (λ qs. KeepsUndo (fold_of base qs) (entries (e ∷ es))) (sym (left_first e.0 ps stays))
            (subst (KeepsUndo (fold_of base (filter chosen ps))) (sym (entries_first e es stays)) (kept, subst (λ b. KeepsUndo b (entries es)) over rest))
      ]

  placed_later : (n low least : ℕ) (ps : List BlockPatch) → low ≤ least → ArePlaced n least ps → ArePlaced n low ps
  placed_later n low least [] h placed = tt
  placed_later n low least (p ∷ ps) h placed =
      (record { inside = placed.0.inside; same_length = placed.0.same_length; short = placed.0.short; in_order = omega (arith, placed.0.in_order) }, placed.1)

  pub placed-others : (n least : ℕ) (ps : List BlockPatch) → ArePlaced n least ps → ArePlaced n least (others ps)
  placed-others n least [] placed = tt
  placed-others n least (p ∷ ps) placed =
      let rest = placed-others n (suc p.number) ps placed.1 in
      elim (chosen p) as (λ b. ArePlaced n least (cond (not b) (p ∷ others ps) (others ps))) [
        | true ↦ placed_later n least (suc p.number) (others ps) (omega (arith, placed.0.in_order)) rest
        | false ↦ (placed.0, rest)
      ]

  pub soft_lengths-parts : (ps : List BlockPatch) → soft_lengths (filter chosen ps) + soft_lengths (others ps) ≡ soft_lengths ps
  soft_lengths-parts [] = refl
  soft_lengths-parts (p ∷ ps) =
      let rest = soft_lengths-parts ps in
      let all = soft_lengths-cons p ps in
      elim (chosen p) as (λ b. soft_lengths (cond b (p ∷ filter chosen ps) (filter chosen ps)) + soft_lengths (cond (not b) (p ∷ others ps) (others ps)) ≡ soft_lengths (p ∷ ps)) [
        | true ↦ omega (arith, rest, all, soft_lengths-cons p (filter chosen ps))
        | false ↦ omega (arith, rest, all, soft_lengths-cons p (others ps))
      ]

-- what each patch keeps fits in the block
pub fits-entries : (base : List ℕ) (least : ℕ) (es : List Entry) → KeepsUndo base es → ArePlaced (length base) least (patches_of es) → FitsIn (length base) es
fits-entries base least [] undoes placed = tt
fits-entries base least (e ∷ es) undoes placed =
    let same = written_keeps_length base e.0 (fits_of e.0 placed.0) in
    let placed' = subst (λ n. ArePlaced n (suc e.0.number) (patches_of es)) (sym same) placed.1 in
    let rest = fits-entries (written base (write_of e.0)) (suc e.0.number) es undoes.1 placed' in
    (short e.0.grade e.0.span e.1 placed.0.inside undoes.0, subst (λ n. FitsIn n es) same rest)
  where
    short : (g : Grade) (s : Span) (q : List ℕ) → s.at + s.len ≤ length base → q ≡ range_of base s.at (len_if_soft g s.len) → s.at + length q ≤ length base
    short grade.Soft s q h e = omega (arith, h, ap length e ∙ length-range_of base s.at s.len h)
    short grade.Hard s q h e = omega (arith, h, ap length e)
