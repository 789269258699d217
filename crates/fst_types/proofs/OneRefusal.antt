-- A call has one outcome, refused memory and the device aside.
use Rattle.std.proofs.Common.{◌≡◌, ℕ, List, [], ◌∷◌, refl, sym, ap, ◌∙◌, inl, inr, arith}
use Rattle.fst_types.specs.declared.number.PatchNo.{PatchNo}
use Rattle.fst_types.specs.declared.fault.Fault.{Fault}
use Rattle.fst_types.specs.declared.fault.Fault.TheVariants as fault
use Rattle.fst_types.specs.Patches.{Patch}
use Rattle.fst_types.specs.State.{State}
use Rattle.fst_types.specs.Refusals.{Rule, IsFirst, NoneHolds}
use Rattle.fst_types.specs.Order.{order, held_rule}
use Rattle.fst_types.specs.Events.{Event, MakeChange, MakeEmpty, MakeGate, Depend, Seal, Issue, Settle, Retry, Evict, Forget, Choose, Pick, Show, AskPlace, AskFlight, AskStalled, AskStat, GroupNew, GroupAfter, GroupPatch, GroupClose, Refused}
use Rattle.fst_types.specs.Step.{accepted, refused}
use Rattle.fst_types.specs.Laws.{StepsAreFixed}
use Rattle.fst_types.proofs.OneOutcome.{rows_are_fixed}

-- each rule allows one fault
abbrev AllFixed : List Rule → Type 0
AllFixed [] = Unit {0}
AllFixed (x ∷ xs) = ((f g : Fault) → x.allows f → x.allows g → f ≡ g) × AllFixed xs

one_fault : (x f g : Fault) → f ≡ x → g ≡ x → f ≡ g
one_fault x f g a b = a ∙ sym b

abbrev no_of : ℕ → PatchNo
no_of k = record { 0 = k }

one_held : (heads : List Patch) (b : ℕ) (f g : Fault) → (held_rule heads b).allows f → (held_rule heads b).allows g → f ≡ g
one_held heads b f g x y =
    let i = x.2.least y.2.patch y.2.held in
    let j = y.2.least x.2.patch x.2.held in
    let n : x.0.0 ≡ y.0.0 = omega (arith, i, j, x.2.numbered, y.2.numbered) in
    x.1 ∙ (ap (λ k. fault.HardHeld k) (same_no x.0 y.0 n) ∙ sym y.1)
  where
    same_no : (a b : PatchNo) → a.0 ≡ b.0 → a ≡ b
    same_no a b e = ap no_of e

order_fixed : (s : State) (e : Event) → AllFixed (order s e)
order_fixed s (MakeChange share b at bytes after faulted) = (one_fault _, (one_fault _, (one_fault _, (one_fault _, (one_fault _, (one_fault _, (one_fault _, (one_fault _, (one_fault _, tt)))))))))
order_fixed s (MakeEmpty share after) = (one_fault _, (one_fault _, (one_fault _, (one_fault _, (one_fault _, tt)))))
order_fixed s (MakeGate share) = (one_fault _, (one_fault _, (one_fault _, tt)))
order_fixed s (Depend g on) = (one_fault _, (one_fault _, (one_fault _, (one_fault _, (one_fault _, (one_fault _, (one_fault _, tt)))))))
order_fixed s (Seal g) = (one_fault _, (one_fault _, (one_fault _, (one_fault _, tt))))
order_fixed s (Issue b) = (one_fault _, (one_fault _, (one_fault _, (one_held s.heads b, (one_fault _, (one_fault _, tt))))))
order_fixed s (Settle t b image written) = (one_fault _, tt)
order_fixed s (Retry b) = (one_fault _, (one_fault _, (one_fault _, (one_fault _, tt))))
order_fixed s (Evict b) = (one_fault _, (one_fault _, tt))
order_fixed s Forget = tt
order_fixed s (Choose b) = (one_fault _, tt)
order_fixed s Pick = tt
order_fixed s (Show b faulted) = (one_fault _, (one_fault _, tt))
order_fixed s (AskPlace n) = tt
order_fixed s (AskFlight b) = tt
order_fixed s AskStalled = tt
order_fixed s AskStat = tt
order_fixed s (GroupNew share) = (one_fault _, (one_fault _, (one_fault _, (one_fault _, tt))))
order_fixed s (GroupAfter n m) = (one_fault _, (one_fault _, (one_fault _, (one_fault _, tt))))
order_fixed s (GroupPatch share n b at bytes faulted) = (one_fault _, (one_fault _, (one_fault _, (one_fault _, (one_fault _, (one_fault _, (one_fault _, (one_fault _, (one_fault _, (one_fault _, tt))))))))))
order_fixed s (GroupClose n) = (one_fault _, (one_fault _, tt))

first_fixed : (rules : List Rule) (f g : Fault) → AllFixed rules → IsFirst rules f → IsFirst rules g → f ≡ g
first_fixed [] f g a x y = absurd x
first_fixed (r ∷ rs) f g a (inl x) (inl y) = a.0 f g x.1 y.1
first_fixed (r ∷ rs) f g a (inl x) (inr y) = absurd (y.0 x.0)
first_fixed (r ∷ rs) f g a (inr x) (inl y) = absurd (x.0 y.0)
first_fixed (r ∷ rs) f g a (inr x) (inr y) = first_fixed rs f g a.1 x.1 y.1

none_first : (rules : List Rule) (f : Fault) → NoneHolds rules → IsFirst rules f → ⊥
none_first [] f n x = x
none_first (r ∷ rs) f n (inl x) = n.0 x.0
none_first (r ∷ rs) f n (inr x) = none_first rs f n.1 x.1

pub steps_are_fixed : StepsAreFixed
steps_are_fixed old new other e r q L (accepted n row) (accepted m sow) = inr (rows_are_fixed old new other e r q L row sow)
steps_are_fixed old new other e r q L (accepted n row) (refused {fault = f} (inl x)) = absurd (none_first (order old e) f n x)
steps_are_fixed old new other e r q L (accepted n row) (refused {fault = f} (inr x)) = inl (inr (f, refl, x.1))
steps_are_fixed old new other e r q L (refused {fault = f} (inl x)) (accepted n row) = absurd (none_first (order old e) f n x)
steps_are_fixed old new other e r q L (refused {fault = f} (inr x)) (accepted n row) = inl (inl (f, refl, x.1))
steps_are_fixed old new other e r q L (refused {fault = f} (inl x)) (refused {fault = g} (inl y)) = inr (ap Refused (first_fixed (order old e) f g (order_fixed old e) x y), refl)
steps_are_fixed old new other e r q L (refused {fault = f} (inr x)) (refused {fault = g} y) = inl (inl (f, refl, x.1))
steps_are_fixed old new other e r q L (refused {fault = f} (inl x)) (refused {fault = g} (inr y)) = inl (inr (g, refl, y.1))
