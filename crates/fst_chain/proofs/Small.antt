-- A node of a small record is small.
use Rattle.std.proofs.Common.{ℕ, ◌+◌, ◌-◌, ◌%◌, ◌^◌, ◌<◌, ◌≤◌, sym, subst, arith}
use native.Mathlib.Nat.{mod-lt}
use Prim.Native.Nat.{max}
use mir.Syntax.{Ty, Width, w8, w16, w32, w64, w128}
use mir.Val.{bytes}
use prog.Memory.{align, up}
use prog.Align.{align_pos, align-bytes, align_w}

up_lt : (k e : ℕ) → 0 < k → up k e < e + k
up_lt k e lt = omega (arith, mod-lt (k - e % k) lt)

bytes_le : (w : Width) → bytes w ≤ 16
bytes_le w8 = omega arith
bytes_le w16 = omega arith
bytes_le w32 = omega arith
bytes_le w64 = omega arith
bytes_le w128 = omega arith

align_le : (τ : Ty) → align τ ≤ 16
align_le τ = subst (λ k. k ≤ 16) (sym (align-bytes τ)) (bytes_le (align_w τ))

-- two links, a record of s bytes at the alignment of σ, and the payload's three words
pub node_small : (τ σ : Ty) (s : ℕ) → s < 2 ^ 62 → up (max 8 (max 8 (max (align τ) 8))) (up 8 (up (align σ) 32 + s) + 24) < 2 ^ 63
node_small τ σ s lt =
    let a = max 8 (max 8 (max (align τ) 8)) in let item = up (align σ) 32 in let words = up 8 (item + s) in
    omega (arith, lt, align_le τ, align_le σ, up_lt (align σ) 32 (align_pos σ), up_lt 8 (item + s) (omega arith), up_lt a (words + 24) (omega arith))
