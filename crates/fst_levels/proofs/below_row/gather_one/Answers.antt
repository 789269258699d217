use Rattle.std.proofs.Common.{inl, inr}
use Rattle.fst_levels.proofs.below_row.gather_one.Goals as goal

pub returns-in-Change : goal.returns-in-Change
returns-in-Change c n k = elim k [
  | inl change ↦ elim (c.join.ensures n change) [
    | inl was ↦ inl (inl was)
    | inr e ↦ inr e
  ]
  | inr other ↦ inl (inr other)
]

pub returns-in-Empty : goal.returns-in-Empty
returns-in-Empty c n k = elim k [
  | inl change ↦ inl (inl change)
  | inr other ↦ elim (c.join-in-Empty.ensures n other) [
    | inl was ↦ inl (inr was)
    | inr e ↦ inr e
  ]
]
