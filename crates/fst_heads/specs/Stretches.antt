-- Between which numbers some of the patches lie.
use Rattle.std.specs.Prelude.{◌≤◌, ℕ, Bool, List, All, IsTrue, min, max}
use Rattle.fst_heads.specs.declared.stretch.Stretch.{Stretch}
use Rattle.fst_heads.specs.Nodes.{Node}

-- the number lies in the stretch
abbrev pub LiesIn : Stretch → ℕ → Type 0
LiesIn s n = (s.from ≤ n) × (n ≤ s.to)

-- no number lies in it
abbrev pub nowhere : Stretch
nowhere = record { from = 4294967295; to = 0 }

-- the number lies in it too
abbrev pub widened : ℕ → Stretch → Stretch
widened n s = record { from = min n s.from; to = max n s.to }

-- the numbers of those that pass lie in it
abbrev pub LieIn : (Node → Bool) → List Node → Stretch → Type 0
LieIn passes nodes s = All (λ x. IsTrue (passes x) → LiesIn s x.patch.number) nodes
