-- What is pending of the patch with a number, and which patches are told.
use Rattle.fst_heads.proofs.Basics.{◌≡◌, ℕ, true, List, Contains, sym, ◌∙◌, arith}
use Rattle.fst_heads.proofs.{Words.{Pending, Node, pending_in, AreSettled, joined, of_kind, sums_of, now, is_recorded}, Sums.joined_exact}
pub use Rattle.fst_heads.proofs.Turning.{same_pending as pending_same}

pub recorded_now : (x : Node) → is_recorded x ≡ true → now x ≡ x.pending
recorded_now x e = pending_same (now x) x.pending e

-- by its exact sums what is pending of it now follows from its row
pub now_row : (told : ℕ → Pending) (x : Node) → x.sums ≡ sums_of told x.patch.dependencies → now x ≡ of_kind x.patch.kind x.patch.place (joined told x.patch.dependencies)
now_row told x e = grind (arith, joined_exact)

-- at rest all are told
pub now_at_rest : (nodes : List Node) (blocks : ℕ) → AreSettled nodes blocks → (x : Node) → Contains nodes x → now x ≡ x.pending
now_at_rest nodes blocks S x c = now_row (pending_in nodes) x (S.summed x c) ∙ sym (S.settled x c)
