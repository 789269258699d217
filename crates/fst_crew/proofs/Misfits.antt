-- Slots that do not fit: a cache that opened did so over slots that do, and a fault is passed on as it is.
use Rattle.std.proofs.Common.{◌≡◌, ℕ, List, Result, Ok, Err, IsErrAnd, subst, inl, inr}
use Rattle.std.specs.Prelude.{IsErrOf}
use Rattle.fst_types.specs.declared.fault.Fault.{Fault}
use Rattle.fst_types.specs.Order.{open_order}
use Rattle.fst_types.specs.Refusals.{NoneHolds}
use Rattle.fst_crew.specs.Crewing.{AreMisfits}

none_misfits : (indices sizes : List ℕ) (f : Fault) → NoneHolds (open_order 8 8 indices sizes) → AreMisfits indices sizes f → ⊥
none_misfits indices sizes f none (inl first) = none.0 first.0
none_misfits indices sizes f none (inr (other, inl second)) = none.1.0 second.0
none_misfits indices sizes f none (inr (other, inr (more, never))) = absurd never

pub fitting : (blocks size : ℕ) (indices sizes : List ℕ) (f : Fault) → blocks ≡ 8 → size ≡ 8 → NoneHolds (open_order blocks size indices sizes) → AreMisfits indices sizes f → ⊥
fitting blocks size indices sizes f eight long none =
    none_misfits indices sizes f (subst (λ n. NoneHolds (open_order 8 n indices sizes)) long (subst (λ n. NoneHolds (open_order n size indices sizes)) eight none))

-- a fault goes on as it is
pub passed_on : {T U E : Type 0} (r : Result T E) (e f : E) → IsErrAnd r (λ x. x ≡ e) → IsErrOf {T = U} (Err e) f → IsErrOf r f
passed_on (Ok u) e f passes of = absurd passes
passed_on (Err x) e f passes of = cc

-- what is there is no fault
pub no_fault : {T E : Type 0} (x : T) (f : E) → IsErrOf (Ok x) f → ⊥
no_fault x f same = cc
