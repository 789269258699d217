-- What a crash leaves, told block by block.
use Rattle.std.proofs.Common.{◌≡◌, ℕ, ◌+◌, ◌<◌, ◌≤◌, List, [], ◌∷◌, ◌++◌, length, take, get_or, Option, Some, None, Result, sym, ap, subst, ◌∙◌, inl, inr, arith, zero-add, append-nil}
use Rattle.std.specs.Prelude.{◌==◌, ◌&&◌}
use Rattle.std.specs.List.{flat_map}
use Rattle.std.specs.Io.KnownBytes.{Appends}
use Rattle.std.proofs.KnownBytes.{Appends-trans}
use Rattle.std.proofs.lemmas.Bool.Decides.{eqb_tells}
use Rattle.std.proofs.lemmas.List.{take_more, take_all}
use Rattle.std.proofs.lemmas.List.FromFn.{length-map-range_with_len, get_or-map-range_with_len}
use Rattle.std.proofs.lemmas.Grind.{flat_map-append}
use Rattle.fst_types.specs.declared.fault.Fault.{Fault}
use Rattle.fst_types.specs.State.{State}
use Rattle.fst_types.specs.Tests.{is_among}
use Rattle.fst_types.specs.Looks.{place_of}
use Rattle.fst_types.specs.Run.{ChangeMade}
use Rattle.fst_lines.specs.Commands.{crash}
use Rattle.fst_lines.specs.Sending.{Sends, TakesPart}
use Rattle.fst_lines.specs.Replies.{refusal, crash_part, crash_text}
use Rattle.fst_player.specs.Script.{PlayerState, first_finish_fault, is_left_at, is_left, left_of, left_of_each, crashed, not_crashed}
use Rattle.fst_player.specs.Answering.{Obeyed}
use Rattle.fst_lines.proofs.SendingLemmas.{TakesPart-part}

pub same_test : (s : State) (finish : List ℕ) (b : ℕ) (c : ChangeMade) → (c.block == b && is_left s finish c) ≡ (c.block == b && is_left_at (is_among finish b) (place_of s.heads s.numbers c.number))
same_test s finish b c =
    elim (eqb_tells c.block b) [
      | inl same ↦ ap (λ n. c.block == b && is_left_at (is_among finish n) (place_of s.heads s.numbers c.number)) same.1
      | inr other ↦
          ap (λ t. t && is_left s finish c) other.0 ∙ sym (ap (λ t. t && is_left_at (is_among finish b) (place_of s.heads s.numbers c.number)) other.0)
    ]

-- the block at i of those that a crash leaves
left_at : (p : PlayerState) (finish : List ℕ) (i : ℕ) → i < length p.cache.blocks → get_or (left_of_each p finish) i [] ≡ left_of p finish i
left_at p finish i lt = get_or-map-range_with_len (left_of p finish) 0 (length p.cache.blocks) i i [] lt (zero-add i)

within : (p : PlayerState) (finish : List ℕ) (i : ℕ) → i < length p.cache.blocks → i < length (left_of_each p finish)
within p finish i lt = let long = length-map-range_with_len (left_of p finish) 0 (length p.cache.blocks) in omega (arith, long, lt)

-- the writer stopped in the i-th block
pub left_stopped : (p : PlayerState) (finish : List ℕ) (i : ℕ) (a b c : Option (List ℕ)) → i < length p.cache.blocks
    → Appends a b (flat_map crash_part (take i (left_of_each p finish))) → TakesPart b c (crash_part (left_of p finish i)) → TakesPart a c (flat_map crash_part (left_of_each p finish))
left_stopped p finish i a b c lt before part =
    TakesPart-part crash_part a b c (left_of_each p finish) i [] (within p finish i lt) before (subst (λ (x : List ℕ). TakesPart b c (crash_part x)) (sym (left_at p finish i lt)) part)

-- one block more was told
pub left_told : (p : PlayerState) (finish : List ℕ) (i : ℕ) (a b c : Option (List ℕ)) → i < length p.cache.blocks
    → Appends a b (flat_map crash_part (take i (left_of_each p finish))) → Appends b c (crash_part (left_of p finish i)) → Appends a c (flat_map crash_part (take (i + 1) (left_of_each p finish)))
left_told p finish i a b c lt before part =
    let xs = left_of_each p finish in
    let front : take (i + 1) xs ≡ take i xs ++ left_of p finish i ∷ [] = take_more xs i [] (within p finish i lt) ∙ ap (λ x. take i xs ++ x ∷ []) (left_at p finish i lt) in
    let text : flat_map crash_part (take (i + 1) xs) ≡ flat_map crash_part (take i xs) ++ crash_part (left_of p finish i) =
    ap (flat_map crash_part) front ∙ flat_map-append crash_part (take i xs) (left_of p finish i ∷ []) ∙ ap (λ l. flat_map crash_part (take i xs) ++ l) (append-nil (crash_part (left_of p finish i))) in
    subst (Appends a c) (sym text) (Appends-trans a b c _ _ before part)

pub Obeyed-not_crashed : {T E : Type 0} (p : PlayerState) (finish : List ℕ) (f : Fault) (a b : Option (List ℕ)) (told : Result T E)
    → first_finish_fault p.cache finish ≡ Some f → Sends a b told (refusal f ++ 10 ∷ []) → Obeyed p (crash finish) a b told p
Obeyed-not_crashed p finish f a b told fault sent = (refusal f, inr (not_crashed fault), sent)

-- the reply to a crash was sent
pub Obeyed-crashed : {T E : Type 0} (p : PlayerState) (finish : List ℕ) (a b : Option (List ℕ)) (told : Result T E)
    → first_finish_fault p.cache finish ≡ None → Sends a b told (crash_text (left_of_each p finish) ++ 10 ∷ []) → Obeyed p (crash finish) a b told p
Obeyed-crashed p finish a b told none sent = (crash_text (left_of_each p finish), inr (crashed none), sent)

-- each block was told
pub left_all : (p : PlayerState) (finish : List ℕ) (i : ℕ) → length p.cache.blocks ≤ i → take i (left_of_each p finish) ≡ left_of_each p finish
left_all p finish i past = let long = length-map-range_with_len (left_of p finish) 0 (length p.cache.blocks) in take_all i (left_of_each p finish) (omega (arith, long, past))
