use Rattle.std.specs.Prelude.{ℕ, List}

-- A write that is to be made. `before` is what the slot held when the write was first to be made.
pub record JobView (S : Type 0) : Type 0 where
  pub ticket : ℕ
  pub block : ℕ
  pub image : List ℕ
  pub slot : S
  pub before : List ℕ
