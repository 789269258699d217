use Rattle.std.specs.Prelude.{ℕ, List, Bool}

-- A write that was tried, and whether it worked. `before` is what the slot held when it was first to be made.
pub record DoneView (S : Type 0) : Type 0 where
  pub ticket : ℕ
  pub block : ℕ
  pub image : List ℕ
  pub slot : S
  pub before : List ℕ
  pub written : Bool
