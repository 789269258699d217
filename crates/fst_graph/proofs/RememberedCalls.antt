-- What a call makes of what is known it makes of that without what is forgotten.
use Rattle.std.proofs.Common.{ℕ, Bool, List, ap}
use Rattle.fst_types.specs.{Facts.{IsOnDiskWithAll, SparseAreLawful}}
use Rattle.fst_graph.specs.{Grouping.SealsIfOpen, Known.{Known, DependsGate, SealsGate}, Remembered.{remembered_known, AreGone}}
use Rattle.fst_graph.proofs.{Remembered.open_known, RememberedRows.{begun_remembered, gains_remembered, sealed_remembered}, RememberedRules.{depend_clear, seal_clear}}

module _ (gone : ℕ → Bool) (old new : Known) (G : AreGone gone old.heads) (H : SparseAreLawful old.heads old.numbers) where
  abbrev D : IsOnDiskWithAll old.heads
  D = H.on_disk_with_all

  pub seal_known : (g : ℕ) → SealsGate old g new → SealsGate (remembered_known gone old) g (remembered_known gone new)
  seal_known g a = record {
    clear = seal_clear gone old.heads old.numbers G D g (open_known gone old.heads G D g a.row.gate) a.clear;
    row = sealed_remembered gone old.heads old.numbers G H g new.heads a.row;
    numbers = a.numbers;
    blocks = a.blocks;
    groups = a.groups;
    prepared = a.prepared;
  }

  pub begun_known : (g : ℕ) → SealsIfOpen old g new → SealsIfOpen (remembered_known gone old) g (remembered_known gone new)
  begun_known g s = record { row = begun_remembered gone old.heads old.numbers G H g new.heads s.row; state = ap (remembered_known gone) s.state }

  pub depend_known : (g : ℕ) (on : List ℕ) → DependsGate old g on new → DependsGate (remembered_known gone old) g on (remembered_known gone new)
  depend_known g on a = record {
    clear = depend_clear gone old.heads old.numbers G D g on (open_known gone old.heads G D g a.row.gate) a.clear;
    row = gains_remembered gone old.heads old.numbers G D g on new.heads a.row;
    numbers = a.numbers;
    blocks = a.blocks;
    groups = a.groups;
    prepared = a.prepared;
  }
