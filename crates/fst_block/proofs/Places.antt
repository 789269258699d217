-- The entry at a place of the list.
use Rattle.std.proofs.Common.{◌≡◌, ℕ, zero, suc, ◌-◌, ◌<◌, List, [], ◌∷◌, ◌++◌, length, take, drop, get_or, sym, ap, arith}
use Rattle.std.specs.Prelude.{◌==◌, if◌then◌else◌}
use Rattle.std.proofs.lemmas.Bool.Decides.{nat_tests}
use Rattle.fst_chain.specs.Records.{payload_at}
use Rattle.fst_block.specs.BlockView.{BlockPatch}
use Rattle.fst_block.specs.Reverts.{Entry}

pub drop_at_place : (es : List Entry) (k : ℕ) (p : BlockPatch) → k < length es → p ≡ (get_or es k (p, [])).0 → drop k es ≡ (p, payload_at es k) ∷ drop (suc k) es
drop_at_place [] k p here read = absurd (omega arith)
drop_at_place (e ∷ es) zero p here read = ap (λ q. (q, e.1) ∷ es) (sym read)
drop_at_place (e ∷ es) (suc k) p here read = drop_at_place es k p (omega arith) read

pub take_at_place : (es : List Entry) (k : ℕ) (p : BlockPatch) → k < length es → p ≡ (get_or es k (p, [])).0 → take (suc k) es ≡ take k es ++ (p, payload_at es k) ∷ []
take_at_place [] k p here read = absurd (omega arith)
take_at_place (e ∷ es) zero p here read = ap (λ q. (q, e.1) ∷ []) (sym read)
take_at_place (e ∷ es) (suc k) p here read = ap (λ xs. e ∷ xs) (take_at_place es k p (omega arith) read)

-- one place before one that is not the first
pub place_before : (len m p : ℕ) → p ≡ (if m == 0 then len else m - 1) → 0 < m → p ≡ m - 1
place_before len zero p e h = absurd (omega arith)
place_before len (suc m) p e h = grind (arith, nat_tests, e)
