use Rattle.std.proofs.Common.{◌≡◌, ◌∙◌, ℕ, Result, Ok, Err}
use Rattle.std.specs.Prelude.{IfOk}
use Rattle.fst_crew.proofs.Misfits.{no_fault, passed_on}
use Rattle.fst_crew.proofs.crews.worked.Goals as goal

-- one number for another that is the same
made_of : {T E : Type 0} (made : T → ℕ) (r : Result T E) (n m : ℕ) → IfOk r (λ t. made t ≡ n) → n ≡ m → IfOk r (λ t. made t ≡ m)
made_of made (Ok t) n m is same = is ∙ same
made_of made (Err e) n m is same = is

pub returns-clause-made : goal.returns-clause-made
returns-clause-made g c = made_of _ c.closed.result _ _ c.closed.ensures.made c.in_ok-shares.ensures

pub returns-in_err-desk-clause-misfits : goal.returns-in_err-desk-clause-misfits
returns-in_err-desk-clause-misfits g c = λ f misfits. passed_on _ c.in_err-desk.field-0.0 _ c.from_residual.ensures.1 (c.in_err-desk.ensures.misfits f misfits)

pub returns-in_err-shares-clause-misfits : goal.returns-in_err-shares-clause-misfits
returns-in_err-shares-clause-misfits g c = λ f misfits. absurd (no_fault _ _ (c.in_ok-desk.ensures.misfits f misfits))

pub returns-clause-misfits : goal.returns-clause-misfits
returns-clause-misfits g c = λ f misfits. absurd (no_fault _ _ (c.in_ok-desk.ensures.misfits f misfits))
