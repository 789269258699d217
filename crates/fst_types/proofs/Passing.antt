-- What each part of a call passes on to the groups: ties, which gates are open, and changes.
use Rattle.std.proofs.Common.{◌≡◌, ℕ, List, [], length, map, refl, sym, ap, subst, inl, inr}
use Rattle.fst_types.specs.declared.grade.Grade.{Grade}
use Rattle.fst_types.specs.Patches.{Change, OpenGate}
use Rattle.fst_types.specs.Gates.{IsOpenNumber}
use Rattle.fst_types.specs.State.{State}
use Rattle.fst_types.specs.Making.{fresh, MakesChange, MakesGate}
use Rattle.fst_types.specs.Gating.{Depends, Seals, sealed}
use Rattle.fst_types.specs.Facts.{HeadsAreLawful}
use Rattle.fst_types.proofs.Parts.{gates, depends, seals, changes, SealsIfOpen}
use Rattle.fst_types.proofs.Heads.{heads_part}
use Rattle.fst_types.proofs.Heirs.{NoneShut, Heirs, heirs_self, heirs_pushed, heirs_cascade, heirs_gained, heirs_sealed, Passes, passes}

-- what the parts of a call pass on
pub passes_gate : (old : State) (number : ℕ) (new : State) → MakesGate old number new → HeadsAreLawful old.heads old.numbers → Passes NoneShut old.numbers old.heads new.heads
passes_gate old number new m H =
    passes NoneShut old.heads new.heads old.numbers new.numbers H (heads_part old 1 [] new (gates m) H)
    (subst (Heirs NoneShut old.numbers old.heads) (sym m.row.added) (heirs_pushed old.numbers old.heads (fresh number OpenGate []) m.row.next))

pub passes_change : (old : State) (b at : ℕ) (bytes after : List ℕ) (number : ℕ) (grade : Grade) (new : State) → MakesChange old b at bytes after number grade new → HeadsAreLawful old.heads old.numbers → Passes NoneShut old.numbers old.heads new.heads
passes_change old b at bytes after number grade new m H =
    passes NoneShut old.heads new.heads old.numbers new.numbers H (heads_part old 1 _ new (changes m) H)
    (subst (Heirs NoneShut old.numbers old.heads) (sym (m.row.added)) (heirs_pushed old.numbers old.heads (fresh number (Change b at (length bytes) grade) m.row.dependencies) m.row.next))

pub passes_depend : (old : State) (g : ℕ) (on : List ℕ) (new : State) → Depends old g on new → HeadsAreLawful old.heads old.numbers → Passes NoneShut old.numbers old.heads new.heads
passes_depend old g on new m H =
    passes NoneShut old.heads new.heads old.numbers new.numbers H (heads_part old 0 [] new (depends m) H)
    (subst (Heirs NoneShut old.numbers old.heads) (sym m.row.gained) (heirs_gained old.numbers g m.row.names old.heads H m.row.gate))

pub passes_seal : (old : State) (g : ℕ) (new : State) → Seals old g new → HeadsAreLawful old.heads old.numbers → Passes (λ n. n ≡ g) old.numbers old.heads new.heads
passes_seal old g new m H =
    passes (λ n. n ≡ g) old.heads new.heads old.numbers new.numbers H (heads_part old 0 [] new (seals m) H)
    (heirs_cascade (λ n. n ≡ g) old.numbers old.heads (map (sealed g) old.heads) new.heads (heirs_sealed old.numbers g old.heads H m.row.gate) m.row.cascade)

-- a head that is sealed, or was no open gate
pub record Begins (old : State) (g : ℕ) (new : State) : Type 0 where
  pub heads : HeadsAreLawful new.heads new.numbers
  pub numbers : new.numbers ≡ old.numbers
  pub passes : Passes (λ n. n ≡ g) old.numbers old.heads new.heads

pub begins : (old : State) (g : ℕ) (new : State) → SealsIfOpen old g new → HeadsAreLawful old.heads old.numbers → Begins old g new
begins old g new (inl m) H = record { heads = heads_part old 0 [] new (seals m) H; numbers = ap (λ s. s.numbers) m.state; passes = passes_seal old g new m H }
begins old g new (inr s) H =
    let P = passes NoneShut old.heads old.heads old.numbers old.numbers H H (heirs_self old.numbers old.heads) in
    subst (Begins old g) (sym s.1) (record {
      heads = H;
      numbers = refl;
      passes = record {
        tied = P.tied;
        opens = λ n is_open. inr is_open;
        opened = λ n few is_open. (is_open, λ e. s.0 (subst (IsOpenNumber old.heads) e is_open));
        changes = P.changes;
      };
    })
