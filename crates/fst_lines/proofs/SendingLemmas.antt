-- What a writer took, over several sends.
use Rattle.std.proofs.Common.{◌≡◌, ℕ, ◌+◌, List, [], ◌∷◌, ◌++◌, Option, None, Some, Result, Ok, Err, refl, sym, ap, ◌∙◌, subst, append_assoc, take, drop, take-append-drop}
use Rattle.std.proofs.Math.Seq.{take-add}
use Rattle.std.specs.Io.KnownBytes.{Appends, Keeps}
use Rattle.std.proofs.KnownBytes.{Appends-trans}
use Rattle.std.proofs.Common.{◌/◌, ◌%◌, slice_index, IsErrAnd, IsOk, OnOk}
use Rattle.std.proofs.Common.{◌<◌, length, get_or}
use Rattle.std.specs.List.{flat_map}
use Rattle.std.proofs.lemmas.List.{drop_more}
use Rattle.std.proofs.lemmas.Bool.{false≢true}
use Rattle.std.proofs.lemmas.Grind.{flat_map-append}
use Rattle.hex.specs.Hex.{encode_with, encode_lower, lower_digits}
use Rattle.std.specs.Prelude.{decimal}
use Rattle.fst_types.specs.declared.number.PatchNo.{PatchNo}
use Rattle.fst_lines.specs.Parsing.{patch_numbers}
use Rattle.fst_lines.specs.Pieces.{after_comma, commas}
use Rattle.fst_lines.specs.Sending.{Sends, TakesPart}

pub Appends-kept : (a b c : Option (List ℕ)) (bs : List ℕ) → Appends a b bs → Keeps b c → Appends a c bs
Appends-kept None b c bs p q = tt
Appends-kept (Some x) None c bs p q = absurd p
Appends-kept (Some x) (Some y) None bs p q = absurd q
Appends-kept (Some x) (Some y) (Some z) bs p q = q ∙ p

-- the first at of the bytes were taken, and then n more
pub Appends-more : (a b c : Option (List ℕ)) (bytes : List ℕ) (at n : ℕ) → Appends a b (take at bytes) → Appends b c (take n (drop at bytes)) → Appends a c (take (at + n) bytes)
Appends-more a b c bytes at n p q = subst (Appends a c) (sym (take-add at n bytes)) (Appends-trans a b c _ _ p q)

-- the first at of the bytes were taken
pub TakesPart-front : (a b : Option (List ℕ)) (bytes : List ℕ) (at : ℕ) → Appends a b (take at bytes) → TakesPart a b bytes
TakesPart-front a b bytes at p = (take at bytes, drop at bytes, take-append-drop at bytes, p)

-- all of the first bytes, and a beginning of those after them
pub TakesPart-then : (a b c : Option (List ℕ)) (xs ys : List ℕ) → Appends a b xs → TakesPart b c ys → TakesPart a c (xs ++ ys)
TakesPart-then a b c xs ys p q = (xs ++ q.0, q.1, append_assoc xs q.0 q.1 ∙ ap (λ l. xs ++ l) q.2, Appends-trans a b c xs q.0 p q.3)

-- a beginning of the first bytes is one of more
pub TakesPart-longer : (a b : Option (List ℕ)) (xs ys : List ℕ) → TakesPart a b xs → TakesPart a b (xs ++ ys)
TakesPart-longer a b xs ys p = (p.0, p.1 ++ ys, sym (append_assoc p.0 p.1 ys) ∙ ap (λ l. l ++ ys) p.2, p.3)

-- the exit of the question mark
pub Sends-err : {T E : Type 0} (Q : E → Type 0) (a b : Option (List ℕ)) (r : Result T E) (bytes : List ℕ) → IsErrAnd r Q → TakesPart a b bytes → Sends a b r bytes
Sends-err Q a b (Ok x) bytes e p = absurd e
Sends-err Q a b (Err x) bytes e p = p

-- the hex text of a list is that of its parts
pub encode_with-append : (t xs ys : List ℕ) → encode_with t (xs ++ ys) ≡ encode_with t xs ++ encode_with t ys
unfolding encode_with
encode_with-append t [] ys = refl
encode_with-append t (x ∷ xs) ys = ap (λ l. slice_index t (x / 16) ∷ slice_index t (x % 16) ∷ l) (encode_with-append t xs ys)

pub encode_lower-take : (xs : List ℕ) (at n : ℕ) → encode_lower (take (at + n) xs) ≡ encode_lower (take at xs) ++ encode_lower (take n (drop at xs))
encode_lower-take xs at n = ap encode_lower (take-add at n xs) ∙ encode_with-append lower_digits (take at xs) (take n (drop at xs))

pub encode_lower-split : (xs : List ℕ) (at n : ℕ) → encode_lower xs ≡ (encode_lower (take at xs) ++ encode_lower (take n (drop at xs))) ++ encode_lower (drop (at + n) xs)
encode_lower-split xs at n =
    ap encode_lower (sym (take-append-drop (at + n) xs)) ∙ encode_with-append lower_digits (take (at + n) xs) (drop (at + n) xs)
    ∙ ap (λ l. l ++ encode_lower (drop (at + n) xs)) (encode_lower-take xs at n)

-- the parts before the i-th, that one, and those after it
flat_map-at : {X : Type 0} (f : X → List ℕ) (xs : List X) (i : ℕ) (d : X) → i < length xs → flat_map f xs ≡ (flat_map f (take i xs) ++ f (get_or xs i d)) ++ flat_map f (drop (i + 1) xs)
flat_map-at f xs i d h =
    ap (flat_map f) (sym (take-append-drop i xs) ∙ ap (λ l. take i xs ++ l) (drop_more xs i d h))
    ∙ flat_map-append f (take i xs) (get_or xs i d ∷ drop (i + 1) xs) ∙ sym (append_assoc (flat_map f (take i xs)) (f (get_or xs i d)) (flat_map f (drop (i + 1) xs)))

-- a beginning of the i-th part, of a list of parts
pub TakesPart-part : {X : Type 0} (f : X → List ℕ) (a b c : Option (List ℕ)) (xs : List X) (i : ℕ) (d : X) → i < length xs → Appends a b (flat_map f (take i xs)) → TakesPart b c (f (get_or xs i d)) → TakesPart a c (flat_map f xs)
TakesPart-part f a b c xs i d h p q =
    subst (TakesPart a c) (sym (flat_map-at f xs i d h)) (TakesPart-longer a c _ _ (TakesPart-then a b c _ _ p q))

-- all of the first bytes, and then a send of more
pub Sends-then : {T E : Type 0} (a b c : Option (List ℕ)) (r : Result T E) (xs ys : List ℕ) → Appends a b xs → Sends b c r ys → Sends a c r (xs ++ ys)
Sends-then a b c (Ok u) xs ys p q = Appends-trans a b c xs ys p q
Sends-then a b c (Err e) xs ys p q = TakesPart-then a b c xs ys p q

pub OnOk-at : {T E : Type 0} (r : Result T E) (P : Type 0) → IsOk r → OnOk r P → P
OnOk-at (Ok x) P h p = p
OnOk-at (Err e) P h p = absurd (false≢true h)

after_commas : (ps : List PatchNo) → flat_map after_comma (patch_numbers ps) ≡ flat_map (λ p. after_comma p.0) ps
after_commas [] = refl
after_commas (p ∷ ps) = ap (λ l. after_comma p.0 ++ l) (after_commas ps)

-- patches with commas between their numbers: the first, and each other behind a comma
pub commas-patches : (p : PatchNo) (ps : List PatchNo) → commas (patch_numbers (p ∷ ps)) ≡ decimal p.0 ++ flat_map (λ q. after_comma q.0) ps
commas-patches p ps = ap (λ l. decimal p.0 ++ l) (after_commas ps)
