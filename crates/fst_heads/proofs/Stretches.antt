-- Numbers of nodes that pass a test, and stretches that have them.
use Rattle.fst_heads.proofs.Basics.{◌≡◌, ℕ, Bool, List, map, get_or, All, All-map, false, true, false≢true, sym, subst, ◌∙◌, arith, min-le_left, min-le_right, le-max_left, le-max_right}
use Rattle.fst_heads.proofs.Patches.{In, In-get_or}
use Rattle.fst_heads.proofs.Words.{Node, Stretch, LiesIn, LieIn, widened}

-- the numbers of those that pass have the property
abbrev pub NumbersHave : (Node → Bool) → (ℕ → Type 0) → List Node → Type 0
NumbersHave t P nodes = All (λ x. t x ≡ true → P x.patch.number) nodes

-- where f makes none pass but what passed the other test, with its number
pub numbers_map : (t u : Node → Bool) (P : ℕ → Type 0) (f : Node → Node) (nodes : List Node) → ((x : Node) → In nodes x → t (f x) ≡ true → (u x ≡ true) × ((f x).patch.number ≡ x.patch.number))
    → NumbersHave u P nodes → NumbersHave t P (map f nodes)
numbers_map t u P f nodes still all = All-map (λ x. t x ≡ true → P x.patch.number) f nodes (λ k d lt e.
    let s = still (get_or nodes k d) (In-get_or nodes k d lt) e in
    subst P (sym s.1) (all k d lt s.0))

-- where none passes
pub numbers_none : (t : Node → Bool) (P : ℕ → Type 0) (nodes : List Node) → ((x : Node) → In nodes x → t x ≡ false) → NumbersHave t P nodes
numbers_none t P nodes none k d lt e = absurd (false≢true (sym (none (get_or nodes k d) (In-get_or nodes k d lt)) ∙ e))

-- a stretch that is widened has the number, and all that it had
pub widened_here : (n : ℕ) (s : Stretch) → LiesIn (widened n s) n
widened_here n s = (min-le_left n s.from, le-max_left n s.to)

widened_still : (n m : ℕ) (s : Stretch) → LiesIn s m → LiesIn (widened n s) m
widened_still n m s lies = (omega (arith, min-le_right n s.from, lies.0), omega (arith, le-max_right n s.to, lies.1))

pub lie_wider : (t : Node → Bool) (nodes : List Node) (n : ℕ) (s : Stretch) → LieIn t nodes s → LieIn t nodes (widened n s)
lie_wider t nodes n s all k d lt e = widened_still n (get_or nodes k d).patch.number s (all k d lt e)
