-- The state after a row, with its heads as the row has them.
use Rattle.std.proofs.Common.{◌≡◌, ◌+◌, ℕ, List, [], ◌∷◌, ◌++◌, length, false, map, filter, ap, ◌∙◌, Some}
use Rattle.fst_types.specs.declared.grade.Grade.{Grade}
use Rattle.fst_types.specs.Patches.{Change, OpenGate}
use Rattle.fst_types.specs.Tests.{is_live, has_number}
use Rattle.fst_types.specs.State.{State, with_flight}
use Rattle.fst_types.specs.Making.{fresh, MakesChange, MakesGate}
use Rattle.fst_types.specs.Gating.{gains, Depends}
use Rattle.fst_types.specs.Writing.{launched, Issues}
use Rattle.fst_types.specs.Forgetting.{Forgets}

pub whole_change : (old new : State) (b at : ℕ) (bytes after : List ℕ) (number : ℕ) (grade : Grade) (m : MakesChange old b at bytes after number grade new)
    → new ≡ record old { numbers = number; made = old.made + 1; heads = old.heads ++ fresh number (Change b at (length bytes) grade) m.row.dependencies ∷ []; contents = old.contents ++ (number, bytes) ∷ [] }
whole_change old new b at bytes after number grade m = m.state ∙ ap (λ hs. record old { numbers = number; made = old.made + 1; heads = hs; contents = old.contents ++ (number, bytes) ∷ [] }) m.row.added

pub whole_gate : (old new : State) (number : ℕ) → MakesGate old number new → new ≡ record old { numbers = number; made = old.made + 1; heads = old.heads ++ fresh number OpenGate [] ∷ [] }
whole_gate old new number m = m.state ∙ ap (λ hs. record old { numbers = number; made = old.made + 1; heads = hs }) m.row.added

pub whole_depend : (old new : State) (g : ℕ) (on : List ℕ) (m : Depends old g on new) → new ≡ record old { heads = map (gains g m.row.names) old.heads }
whole_depend old new g on m = m.state ∙ ap (λ hs. record old { heads = hs }) m.row.gained

pub whole_issue : (old new : State) (b ticket : ℕ) (image : List ℕ) (m : Issues old b ticket image new)
    → new ≡ record old { tickets = ticket; heads = map (launched m.chosen) old.heads; blocks = with_flight old b (Some (record { ticket = ticket; image = image; stalled = false; failed = 0 })) }
whole_issue old new b ticket image m =
    m.state ∙ ap (λ hs. record old { tickets = ticket; heads = hs; blocks = with_flight old b (Some (record { ticket = ticket; image = image; stalled = false; failed = 0 })) }) m.row

pub whole_forget : (old new : State) (dropped : ℕ) → Forgets old dropped new
    → new ≡ record old { heads = filter is_live old.heads; contents = filter (λ e. has_number (filter is_live old.heads) e.0) old.contents }
whole_forget old new dropped m = m.state ∙ ap (λ hs. record old { heads = hs; contents = filter (λ e. has_number hs e.0) old.contents }) m.row.kept
