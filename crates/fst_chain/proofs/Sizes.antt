-- The size and the alignment of a node's block.
use Rattle.std.proofs.Common.{◌≡◌, Bool, true, false, ℕ, ◌+◌, ◌-◌, ◌*◌, ◌^◌, ◌<◌, ◌≤◌, ◌⊎◌, [], min, refl, sym, ap, ◌∙◌, subst, arith, T, inl, inr}
use mathlib.Core.Bool.{cond}
use lib.Dec.{ltb, ltb→lt, lt→ltb}
use mir.Syntax.{Ty, Width, w8, w16, w32, w64, w128, ty_struct, tcons, tnil}
use mir.Raw.{raw as bare}
use mir.Val.{bytes}
use Prim.Native.Nat.{max}
use prog.Memory.{size, align, capped, up}
use prog.Align.{align_pos, align-bytes, align_w, up-ge}
use prog.Capped.{capped_is}
use prog.RawLaws.{size-raw, align-raw}
use denote.Struct.CellSteps.{first_at}
use Rattle.fst_chain.specs.Blocks.{bytes_type}
use Rattle.core.specs.Allocator.{HasLayout}
use Rattle.core.specs.Int.{next_multiple_of}

abbrev block : Ty → ℕ → Ty
block τ n = ty_struct [] (tcons (bare τ) (tcons (bytes_type n) tnil))

up_one : (e : ℕ) → up 1 e ≡ e
up_one e = omega arith

bytes_small : (w : Width) → bytes w < 2 ^ 64
bytes_small w8 = omega arith
bytes_small w16 = omega arith
bytes_small w32 = omega arith
bytes_small w64 = omega arith
bytes_small w128 = omega arith

align_small : (τ : Ty) → align τ < 2 ^ 64
align_small τ = subst (λ k. k < 2 ^ 64) (sym (align-bytes τ)) (bytes_small (align_w τ))

max_one : (k : ℕ) → 0 < k → max k 1 ≡ k
max_one k lt = omega (arith, lt)

block_align : (τ : Ty) (n : ℕ) → align (block τ n) ≡ align τ
block_align τ n = max_one (align (bare τ)) (align_pos (bare τ)) ∙ align-raw τ

block_end : (τ : Ty) (n : ℕ) → up 1 (up (align (bare τ)) 0 + size (bare τ)) + n * 1 ≡ size τ + n
block_end τ n = omega (arith, up_one (up (align (bare τ)) 0 + size (bare τ)), first_at (align (bare τ)) 0, size-raw τ)

block_size : (τ : Ty) (n : ℕ) → size (block τ n) ≡ up (align τ) (size τ + n)
block_size τ n = λ i. up (block_align τ n i) (block_end τ n i)

capped_big : (k : ℕ) → 2 ^ 64 - 1 ≤ k → capped k ≡ 2 ^ 64 - 1
capped_big k le = cases (ltb k (2 ^ 64)) (λ i. ltb k (2 ^ 64)) where
  cases : (b : Bool) → ltb k (2 ^ 64) ≡ b → cond b k (2 ^ 64 - 1) ≡ 2 ^ 64 - 1
  cases true e = omega (arith, le, ltb→lt k (2 ^ 64) (subst T (sym e) tt))
  cases false e = refl

capped_case : (k : ℕ) → (capped k ≡ k) ⊎ (capped k ≡ 2 ^ 64 - 1) × (2 ^ 64 - 1 ≤ k)
capped_case k = cases (ltb k (2 ^ 64)) (λ i. ltb k (2 ^ 64)) where
  cases : (b : Bool) → ltb k (2 ^ 64) ≡ b → (cond b k (2 ^ 64 - 1) ≡ k) ⊎ (cond b k (2 ^ 64 - 1) ≡ 2 ^ 64 - 1) × (2 ^ 64 - 1 ≤ k)
  cases true e = inl refl
  cases false e = inr (refl, omega (arith, big)) where
    big : k < 2 ^ 64 → ⊥
    big h = subst T e (lt→ltb k (2 ^ 64) h)

module _ (τ : Ty) (n end a : ℕ) (sum : end ≡ min (capped (size τ) + n) (2 ^ 64 - 1)) (al : a ≡ capped (align τ)) where
  a_is : a ≡ align τ
  a_is = al ∙ capped_is (align τ) (align_small τ)

  whole : ℕ
  whole = up (align τ) (size τ + n)

  -- the sum fits a word, or a word's greatest value stands for it
  sum_case : (end ≡ size τ + n) ⊎ (end ≡ 2 ^ 64 - 1) × (2 ^ 64 - 1 ≤ size τ + n)
  sum_case = cases (ltb (size τ + n) (2 ^ 64)) (λ i. ltb (size τ + n) (2 ^ 64)) where
    cases : (b : Bool) → ltb (size τ + n) (2 ^ 64) ≡ b → (end ≡ size τ + n) ⊎ (end ≡ 2 ^ 64 - 1) × (2 ^ 64 - 1 ≤ size τ + n)
    cases true e = let lt = ltb→lt (size τ + n) (2 ^ 64) (subst T (sym e) tt) in inl (omega (arith, lt, sum, capped_is (size τ) (omega (arith, lt))))
    cases false e = inr (far (capped_case (size τ))) where
      big : size τ + n < 2 ^ 64 → ⊥
      big h = subst T e (lt→ltb (size τ + n) (2 ^ 64) h)

      far : (capped (size τ) ≡ size τ) ⊎ (capped (size τ) ≡ 2 ^ 64 - 1) × (2 ^ 64 - 1 ≤ size τ) → (end ≡ 2 ^ 64 - 1) × (2 ^ 64 - 1 ≤ size τ + n)
      far (inl s) = (omega (arith, big, sum, s), omega (arith, big))
      far (inr s) = (omega (arith, sum, s.0), omega (arith, s.1))

  over : 2 ^ 64 - 1 ≤ size τ + n → capped whole ≡ 2 ^ 64 - 1
  unfolding whole
  over le = capped_big (up (align τ) (size τ + n)) (omega (arith, le, up-ge (align τ) (size τ + n)))

  same : end ≡ size τ + n → whole ≡ next_multiple_of end a
  unfolding whole
  same e = λ i. up (sym a_is i) (sym e i)

  pub layout_some : (v : ℕ) → next_multiple_of end a < 2 ^ 64 → v ≡ next_multiple_of end a → HasLayout (block τ n) v a
  unfolding whole
  layout_some v lt e = (ap capped (block_size τ n) ∙ go sum_case, ap capped (block_align τ n) ∙ sym al) where
    go : (end ≡ size τ + n) ⊎ (end ≡ 2 ^ 64 - 1) × (2 ^ 64 - 1 ≤ size τ + n) → capped (up (align τ) (size τ + n)) ≡ v
    go (inl s) = capped_is (up (align τ) (size τ + n)) (subst (λ k. k < 2 ^ 64) (sym (same s)) lt) ∙ same s ∙ sym e
    go (inr s) = over s.1 ∙ omega (arith, s.0, lt, e, up-ge a end)

  pub layout_none : ((0 < a) × (next_multiple_of end a < 2 ^ 64) → ⊥) → HasLayout (block τ n) (2 ^ 64 - 1) a
  unfolding whole
  layout_none not = (ap capped (block_size τ n) ∙ go sum_case, ap capped (block_align τ n) ∙ sym al) where
    positive : 0 < a
    positive = subst (λ k. 0 < k) (sym a_is) (align_pos τ)

    high : next_multiple_of end a < 2 ^ 64 → ⊥
    high h = not (positive, h)

    go : (end ≡ size τ + n) ⊎ (end ≡ 2 ^ 64 - 1) × (2 ^ 64 - 1 ≤ size τ + n) → capped (up (align τ) (size τ + n)) ≡ 2 ^ 64 - 1
    go (inl s) = capped_big (up (align τ) (size τ + n)) (omega (arith, high, same s))
    go (inr s) = over s.1
