-- Writes of patches: undone, and in another order.
use Rattle.std.proofs.Common.{◌≡◌, ◌⊎◌, ℕ, ◌+◌, ◌<◌, ◌≤◌, List, [], ◌∷◌, ◌++◌, length, take, drop, refl, sym, ap, subst, ◌∙◌, inl, inr, arith, append_assoc, length-append, length-drop, length-take-le}
use Rattle.std.proofs.lemmas.Bool.{cases_lt}
use Rattle.std.proofs.lemmas.List.{take_at, drop_at, take-append-drop, drop-drop, nil_from_length, append-nil}
use Rattle.fst_types.specs.Fold.{Write, written}
use Rattle.fst_types.proofs.Folds.{written_length, written_swap}
use Rattle.fst_block.specs.BlockView.{BlockPatch, write_of, fold_of}
use Rattle.fst_block.specs.Choices.{ShareByte}

-- the bytes at w's place, as they are
abbrev pub range_of : List ℕ → ℕ → ℕ → List ℕ
range_of base at len = take len (drop at base)

pub length-range_of : (base : List ℕ) (at len : ℕ) → at + len ≤ length base → length (range_of base at len) ≡ len
length-range_of base at len h = length-take-le len (drop at base) (omega (arith, length-drop at base))

-- what was there, written again
pub written_same : (base : List ℕ) (at len : ℕ) → take at base ++ range_of base at len ++ drop (at + len) base ≡ base
written_same base at len =
    append_assoc (take at base) (range_of base at len) (drop (at + len) base)
    ∙ (ap (λ xs. take at base ++ (range_of base at len ++ xs)) (sym (drop-drop len at base))
    ∙ (ap (λ xs. take at base ++ xs) (take-append-drop len (drop at base))
    ∙ take-append-drop at base))

module _ (base new : List ℕ) (at len : ℕ) (fits : at + len ≤ length base) (same : length new ≡ len) where
  over : List ℕ
  over = take at base ++ new ++ drop (at + len) base

  front : length (take at base) ≡ at
  front = length-take-le at base (omega arith)

  -- the bytes before, at and behind a write
  pub take-over : take at (take at base ++ new ++ drop (at + len) base) ≡ take at base
  take-over = ap (take at) (append_assoc (take at base) new (drop (at + len) base)) ∙ take_at (take at base) (new ++ drop (at + len) base) at front

  pub drop-over : drop (at + len) (take at base ++ new ++ drop (at + len) base) ≡ drop (at + len) base
  drop-over = drop_at (take at base ++ new) (drop (at + len) base) (at + len) (omega (arith, length-append (take at base) new, front))

  pub range-over : range_of (take at base ++ new ++ drop (at + len) base) at len ≡ new
  range-over =
      ap (λ xs. take len (drop at xs)) (append_assoc (take at base) new (drop (at + len) base))
      ∙ (ap (take len) (drop_at (take at base) (new ++ drop (at + len) base) at front)
      ∙ take_at new (drop (at + len) base) len same)

  -- a write is undone by what was there
  pub undone : take at (take at base ++ new ++ drop (at + len) base) ++ range_of base at len ++ drop (at + len) (take at base ++ new ++ drop (at + len) base) ≡ base
  undone =
      ap (λ xs. xs ++ range_of base at len ++ drop (at + len) (take at base ++ new ++ drop (at + len) base)) take-over
      ∙ (ap (λ xs. take at base ++ range_of base at len ++ xs) drop-over
      ∙ written_same base at len)

-- a write of nothing
written_nothing : (base : List ℕ) (w : Write) → length w.bytes ≡ 0 → written base w ≡ base
written_nothing base w h =
    ap (λ bs. take w.at base ++ bs ++ drop (w.at + length bs) base) (nil_from_length w.bytes h)
    ∙ (ap (λ xs. xs ++ drop (w.at + 0) base) (append-nil (take w.at base))
    ∙ (let n : w.at + 0 ≡ w.at = omega arith in ap (λ k. take w.at base ++ drop k base) n ∙ take-append-drop w.at base))

-- p fits in n bytes
abbrev pub Fits : ℕ → BlockPatch → Type 0
Fits n p = (p.span.at + p.span.len ≤ n) × (length p.bytes ≡ p.span.len)

pub written_keeps_length : (base : List ℕ) (p : BlockPatch) → Fits (length base) p → length (written base (write_of p)) ≡ length base
written_keeps_length base p f = written_length base (write_of p) (omega (arith, f.0, f.1))

-- patches that share no byte may change places
pub apart_swap : (base : List ℕ) (p q : BlockPatch) → Fits (length base) p → Fits (length base) q → (ShareByte p.span q.span → ⊥)
    → written (written base (write_of p)) (write_of q) ≡ written (written base (write_of q)) (write_of p)
apart_swap base p q fp fq apart =
    elim (cases_lt 0 p.span.len) [
      | inr none ↦ written_first (omega (arith, fp.1, none))
      | inl some_p ↦ elim (cases_lt 0 q.span.len) [
        | inr none ↦ written_second (omega (arith, fq.1, none))
        | inl some_q ↦ written_swap base (write_of p) (write_of q) (omega (arith, fp.0, fp.1)) (omega (arith, fq.0, fq.1)) (sides some_p some_q)
      ]
    ]
  where
    written_first : length p.bytes ≡ 0 → written (written base (write_of p)) (write_of q) ≡ written (written base (write_of q)) (write_of p)
    written_first h = ap (λ b. written b (write_of q)) (written_nothing base (write_of p) h) ∙ sym (written_nothing (written base (write_of q)) (write_of p) h)

    written_second : length q.bytes ≡ 0 → written (written base (write_of p)) (write_of q) ≡ written (written base (write_of q)) (write_of p)
    written_second h = written_nothing (written base (write_of p)) (write_of q) h ∙ ap (λ b. written b (write_of p)) (sym (written_nothing base (write_of q) h))

    sides : 0 < p.span.len → 0 < q.span.len → (p.span.at + length p.bytes ≤ q.span.at) ⊎ (q.span.at + length q.bytes ≤ p.span.at)
    sides hp hq =
        elim (cases_lt q.span.at (p.span.at + p.span.len)) [
          | inr after ↦ inl (omega (arith, fp.1, after))
          | inl begins ↦ elim (cases_lt p.span.at (q.span.at + q.span.len)) [
            | inr after ↦ inr (omega (arith, fq.1, after))
            | inl reaches ↦ elim (cases_lt p.span.at q.span.at) [
              | inl first ↦ absurd (apart (record { byte = q.span.at; first_begins = omega arith; first_ends = begins; second_begins = omega arith; second_ends = omega arith }))
              | inr second ↦ absurd (apart (record { byte = p.span.at; first_begins = omega arith; first_ends = omega arith; second_begins = second; second_ends = reaches }))
            ]
          ]
        ]

-- none of the patches shares a byte with p
abbrev pub NoneShares : BlockPatch → List BlockPatch → Type 0
NoneShares p [] = Unit {0}
NoneShares p (q ∷ qs) = (ShareByte p.span q.span → ⊥) × NoneShares p qs

abbrev pub AllFit : ℕ → List BlockPatch → Type 0
AllFit n [] = Unit {0}
AllFit n (p ∷ ps) = Fits n p × AllFit n ps

pub fit_along : (m n : ℕ) (ps : List BlockPatch) → m ≡ n → AllFit m ps → AllFit n ps
fit_along m n ps e f = subst (λ k. AllFit k ps) e f

pub fold_apart : (base : List ℕ) (p : BlockPatch) (qs : List BlockPatch) → Fits (length base) p → AllFit (length base) qs → NoneShares p qs
    → fold_of (written base (write_of p)) qs ≡ written (fold_of base qs) (write_of p)
fold_apart base p [] fp fs none = refl
fold_apart base p (q ∷ qs) fp fs none =
    let same = written_keeps_length base q fs.0 in
    ap (λ b. fold_of b qs) (apart_swap base p q fp fs.0 none.0)
    ∙ fold_apart (written base (write_of q)) p qs (omega (arith, same, fp.0), fp.1) (fit_along (length base) (length (written base (write_of q))) qs (sym same) fs.1) none.1

pub length-fold_of : (base : List ℕ) (ps : List BlockPatch) → AllFit (length base) ps → length (fold_of base ps) ≡ length base
length-fold_of base [] fs = refl
length-fold_of base (p ∷ ps) fs =
    let same = written_keeps_length base p fs.0 in
    length-fold_of (written base (write_of p)) ps (fit_along (length base) (length (written base (write_of p))) ps (sym same) fs.1) ∙ same

-- the bytes of a span are as they were under patches that share no byte with it
pub range-fold_of : (base : List ℕ) (p : BlockPatch) (qs : List BlockPatch) → p.span.at + p.span.len ≤ length base → AllFit (length base) qs → NoneShares p qs
    → range_of (fold_of base qs) p.span.at p.span.len ≡ range_of base p.span.at p.span.len
range-fold_of base p qs inside fs none =
    let old = range_of base p.span.at p.span.len in
    let size = length-range_of base p.span.at p.span.len inside in
    let still : BlockPatch = record { number = p.number; span = p.span; grade = p.grade; bytes = old } in
    let top = length-fold_of base qs fs in
    let there : written base (write_of still) ≡ base = ap (λ n. take p.span.at base ++ old ++ drop (p.span.at + n) base) size ∙ written_same base p.span.at p.span.len in
    let unmoved : written (fold_of base qs) (write_of still) ≡ fold_of base qs = sym (fold_apart base still qs (inside, size) fs none) ∙ ap (λ b. fold_of b qs) there in
    let written_len = ap (λ n. take p.span.at (fold_of base qs) ++ old ++ drop (p.span.at + n) (fold_of base qs)) size in
    ap (λ b. range_of b p.span.at p.span.len) (sym unmoved ∙ written_len)
    ∙ range-over (fold_of base qs) old p.span.at p.span.len (omega (arith, top, inside)) size
