-- What is told, a block at a time.
use Rattle.std.proofs.Common.{◌≡◌, ◌+◌, ◌++◌, ◌∷◌, [], ℕ, List, map, length, refl, sym, ap, ◌∙◌, arith}
use Rattle.std.specs.Prelude.{Bool}
use Rattle.std.specs.List.{range_with_len}
use Rattle.std.proofs.lemmas.List.{append-nil}
use Rattle.std.proofs.lemmas.List.FromFn.{map-range_with_len_more, length-map-range_with_len}
use Rattle.fst_types.specs.State.{State}
use Rattle.fst_types.specs.Bytes.{bytes_of}
use Rattle.fst_types.specs.Events.{Show, Shown}
use Rattle.fst_types.specs.Step.{Row, Step, show, group, accepted}
use Rattle.fst_crew.specs.Crewing.{block_line, block_lines, made_line, told}
use mathlib.Core.List.{append_assoc}

-- what `show` answers
is_shown : (s new : State) (b : ℕ) (faulted : Bool) (bytes : List ℕ) → Row s (Show b faulted) (Shown bytes) new → bytes ≡ bytes_of s b
is_shown s _ b faulted _ show = refl
is_shown s new b faulted bytes (group m) = elim m [ ]

pub shown_bytes : (s new : State) (b : ℕ) (faulted : Bool) (bytes : List ℕ) → Step s (Show b faulted) (Shown bytes) new → bytes ≡ bytes_of s b
shown_bytes s new b faulted bytes (accepted none row) = is_shown s new b faulted bytes row

pub told-none : (made : ℕ) → told made [] ≡ made_line made
unfolding told block_lines
told-none made = append-nil (made_line made)

lines-append : (b n : ℕ) (xs : List (List ℕ)) (x : List ℕ) → b + length xs ≡ n → block_lines b (xs ++ x ∷ []) ≡ block_lines b xs ++ block_line n x
unfolding block_lines
lines-append b n [] x e =
    let same : b ≡ n = omega arith in
    rw same (append-nil (block_line n x))
lines-append b n (y ∷ ys) x e =
    let rest = lines-append (b + 1) n ys x (omega arith) in
    ap (λ (l : List ℕ). block_line b y ++ l) rest ∙ sym (append_assoc (block_line b y) (block_lines (b + 1) ys) (block_line n x))

pub told-next : (made n : ℕ) (f : ℕ → List ℕ) → told made (map f (range_with_len 0 (n + 1))) ≡ told made (map f (range_with_len 0 n)) ++ block_line n (f n)
unfolding told
told-next made n f =
    let more = map-range_with_len_more f 0 n n (omega arith) in
    let shown = lines-append 0 n (map f (range_with_len 0 n)) (f n) (omega (arith, length-map-range_with_len f 0 n)) in
    ap (λ (l : List (List ℕ)). told made l) more ∙ ap (λ (l : List ℕ). made_line made ++ l) shown ∙ sym (append_assoc (made_line made) (block_lines 0 (map f (range_with_len 0 n))) (block_line n (f n)))

-- a line more, where the state is as it was
pub next_line : (made b : ℕ) (s t : State) (text more x : List ℕ) → text ≡ told made (map (bytes_of t) (range_with_len 0 b)) → more ≡ text ++ block_line b x → x ≡ bytes_of s b → s ≡ t → more ≡ told made (map (bytes_of t) (range_with_len 0 (b + 1)))
next_line made b s t text more x before e shown same =
    let here : x ≡ bytes_of t b = shown ∙ ap (λ (u : State). bytes_of u b) same in
    e ∙ ap (λ (l : List ℕ). l ++ block_line b x) before ∙ ap (λ (y : List ℕ). told made (map (bytes_of t) (range_with_len 0 b)) ++ block_line b y) here ∙ sym (told-next made b (bytes_of t))
