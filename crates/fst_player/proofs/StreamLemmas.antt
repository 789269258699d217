-- A stream that goes on.
use Rattle.std.proofs.Common.{◌≡◌, ℕ, suc, ◌<◌, Bool, true, false, List, [], ◌∷◌, ◌++◌, refl, sym, ap, ◌∙◌, length, take, drop, get_or, ◌+◌, ◌-◌, ◌≤◌, append_assoc, append-nil, length-take-le, get_or-take, get_or-drop, take-add, arith}
use Rattle.std.proofs.lemmas.Bool.{eqb-true}
use Rattle.std.proofs.lemmas.List.{length-drop, take_more}
use Rattle.std.specs.Prelude.{◌==◌, if◌then◌else◌}
use Rattle.fst_player.specs.Stream.{Parted, begun, parted, last_line}

-- the line goes on by a byte
abbrev pushed : ℕ → Parted → Parted
pushed c p = record { ended = p.ended; rest = p.rest ++ c ∷ [] }

-- the line ends
abbrev ended_by : Parted → Parted
ended_by p = record { ended = p.ended ++ p.rest ∷ []; rest = [] }

abbrev before : Bool → ℕ → Parted → Parted
before t b p = if t then record { ended = [] ∷ p.ended; rest = p.rest } else begun b p.ended p.rest

begun-pushed : (b c : ℕ) (ls : List (List ℕ)) (rest : List ℕ) → begun b ls (rest ++ c ∷ []) ≡ pushed c (begun b ls rest)
begun-pushed b c [] rest = refl
begun-pushed b c (l ∷ ls) rest = refl

begun-ended : (b : ℕ) (ls : List (List ℕ)) (rest : List ℕ) → begun b (ls ++ rest ∷ []) [] ≡ ended_by (begun b ls rest)
begun-ended b [] rest = refl
begun-ended b (l ∷ ls) rest = refl

before-pushed : (t : Bool) (b c : ℕ) (p : Parted) → before t b (pushed c p) ≡ pushed c (before t b p)
before-pushed true b c p = refl
before-pushed false b c p = begun-pushed b c p.ended p.rest

before-ended : (t : Bool) (b : ℕ) (p : Parted) → before t b (ended_by p) ≡ ended_by (before t b p)
before-ended true b p = refl
before-ended false b p = begun-ended b p.ended p.rest

pub parted-push : (xs : List ℕ) (c : ℕ) → (c == 10) ≡ false → parted (xs ++ c ∷ []) ≡ record { ended = (parted xs).ended; rest = (parted xs).rest ++ c ∷ [] }
parted-push [] c h = ap (λ t. before t c (parted [])) h
parted-push (b ∷ bs) c h = ap (before (b == 10) b) (parted-push bs c h) ∙ before-pushed (b == 10) b c (parted bs)

none_false : (b : Bool) → (b ≡ true → ⊥) → b ≡ false
none_false true none = absurd (none refl)
none_false false none = refl

-- bytes none of which ends a line
abbrev pub IsText : List ℕ → Type 0
IsText text = (k : ℕ) → k < length text → (get_or text k 0 == 10) ≡ false

pub parted-text : (text xs : List ℕ) → IsText text → parted (xs ++ text) ≡ record { ended = (parted xs).ended; rest = (parted xs).rest ++ text }
parted-text [] xs h = ap parted (append-nil xs) ∙ ap (λ (r : List ℕ). record { ended = (parted xs).ended; rest = r }) (sym (append-nil (parted xs).rest))
parted-text (c ∷ cs) xs h =
    let one = parted-push xs c (h 0 (omega arith)) in
    let more = parted-text cs (xs ++ c ∷ []) (λ k lt. h (suc k) (omega (arith, lt))) in
    ap parted (sym (append_assoc xs (c ∷ []) cs))
    ∙ (more
    ∙ (ap (λ (p : Parted). record { ended = p.ended; rest = p.rest ++ cs }) one
    ∙ ap (λ (r : List ℕ). record { ended = (parted xs).ended; rest = r }) (append_assoc (parted xs).rest (c ∷ []) cs)))

pub parted-end : (xs : List ℕ) → parted (xs ++ 10 ∷ []) ≡ record { ended = (parted xs).ended ++ (parted xs).rest ∷ []; rest = [] }
parted-end [] = refl
parted-end (b ∷ bs) = ap (before (b == 10) b) (parted-end bs) ∙ before-ended (b == 10) b (parted bs)

-- what has ended stays so
ended_more : (t : Bool) (b : ℕ) (p q : Parted) (more : List (List ℕ)) → q.ended ≡ p.ended ++ more → (others : List (List ℕ)) × ((before t b q).ended ≡ (before t b p).ended ++ others)
ended_more true b p q more h = (more, ap (λ l. [] ∷ l) h)
ended_more false b p q more h = begun_more b p.ended p.rest q.ended q.rest more h
  where
    begun_more : (b : ℕ) (ls : List (List ℕ)) (rest : List ℕ) (ms : List (List ℕ)) (other : List ℕ) (more : List (List ℕ)) → ms ≡ ls ++ more → (others : List (List ℕ)) × ((begun b ms other).ended ≡ (begun b ls rest).ended ++ others)
    begun_more b [] rest ms other more h = ((begun b ms other).ended, refl)
    begun_more b (l ∷ ls) rest ms other more h = (more, ap (λ x. (begun b x other).ended) h)

pub ended-append : (xs ys : List ℕ) → (others : List (List ℕ)) × ((parted (xs ++ ys)).ended ≡ (parted xs).ended ++ others)
ended-append [] ys = ((parted ys).ended, refl)
ended-append (b ∷ bs) ys =
    let tail = ended-append bs ys in
    ended_more (b == 10) b (parted bs) (parted (bs ++ ys)) tail.0 tail.1

pub last_line-some : (rest : List ℕ) → 0 < length rest → last_line rest ≡ rest ∷ []
last_line-some [] h = absurd (omega arith)
last_line-some (b ∷ bs) h = refl

-- what a search for the first end of a line finds of the bytes from at on
module _ (piece : List ℕ) (at : ℕ) where
  pub plain_rest : ((k : ℕ) → 0 ≤ k → k < length (drop at piece) → (get_or (drop at piece) k 0 == 10) ≡ true → ⊥) → IsText (drop at piece)
  plain_rest none k lt = none_false (get_or (drop at piece) k 0 == 10) (none k (omega arith) lt)

  module _ (end : ℕ) (within : end < length (drop at piece)) (low : at ≤ length piece) where
    long : length (drop at piece) ≡ length piece - at
    long = length-drop at piece

    pub plain_line : ((k : ℕ) → 0 ≤ k → k < end → (get_or (drop at piece) k 0 == 10) ≡ true → ⊥) → IsText (take end (drop at piece))
    plain_line none k lt =
        let short : k < end = omega (arith, lt, length-take-le end (drop at piece) (omega (arith, within))) in
        rw (get_or-take end (drop at piece) k 0 short) (none_false (get_or (drop at piece) k 0 == 10) (none k (omega arith) short))

    -- the bytes as far as there: those before, the line, and its end
    pub with_line : (get_or (drop at piece) end 0 == 10) ≡ true → take (at + (end + 1)) piece ≡ (take at piece ++ take end (drop at piece)) ++ 10 ∷ []
    with_line ends =
        let inside : at + end < length piece = omega (arith, within, long, low) in
        let one = take_more piece (at + end) 0 inside in
        let byte : get_or piece (at + end) 0 ≡ 10 = sym (get_or-drop at piece end 0) ∙ eqb-true _ 10 ends in
        ap (λ n. take n piece) (omega arith) ∙ (one ∙ (ap (λ c. take (at + end) piece ++ c ∷ []) byte ∙ ap (λ xs. xs ++ 10 ∷ []) (take-add at end piece)))
