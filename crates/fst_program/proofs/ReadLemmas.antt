-- What a getter reads.
use Rattle.std.proofs.Common.{◌≡◌, ℕ, List, Option, None, Some, Result, Ok, Err, refl}
use Rattle.std.specs.Str.Parse.{ParsesUnsigned}
use Rattle.clap.specs.Words.{Text, ReadsOne}
use Rattle.fst_program.specs.Arguments.{IsRead}

pub IsRead-one : (o : Option Text) (r : Option ℕ) (E : Type 0) (G : List ℕ → Result ℕ E → Type 0)
    → (o ≡ None → r ≡ None) → ((t : List ℕ) → o ≡ Some t → ReadsOne G t r)
    → ((t : List ℕ) (x : Result ℕ E) → G t x → ParsesUnsigned 32 10 t x) → IsRead o r
IsRead-one None r E G none value only = none refl
IsRead-one (Some t) (Some n) E G none value only = only t (Ok n) (value t refl)
IsRead-one (Some t) None E G none value only = let v = value t refl in only t (Err v.0) v.1
