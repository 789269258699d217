-- What is on disk and not forgotten, told by a list of numbers.
use Rattle.std.specs.Prelude.{◌≡◌, ◌≢◌, ◌&&◌, ℕ, Bool, true, not, List, Contains, AllPairs, if◌then◌else◌}
use Rattle.fst_types.specs.Tests.{is_among}
use Rattle.fst_heads.specs.declared.pending.Pending.TheVariants as pending
use Rattle.fst_heads.specs.{Nodes.Node, Pendings.is_pending}

-- nothing is pending of it, and it is not forgotten
abbrev pub is_landed : Node → Bool
is_landed x = not x.forgotten && is_pending x.pending pending.Nothing

-- the list has the numbers of exactly these, each once; of what is forgotten nothing is pending
pub record AreLanded (nodes : List Node) (landed : List ℕ) : Type 0 where
  pub gone : (x : Node) → Contains nodes x → x.forgotten ≡ true → x.pending ≡ pending.Nothing
  pub only : (n : ℕ) → Contains landed n → (x : Node) × Contains nodes x × (x.patch.number ≡ n) × (is_landed x ≡ true)
  pub each : (x : Node) → Contains nodes x → is_landed x ≡ true → Contains landed x.patch.number
  pub once : AllPairs (λ m n. m ≢ n) landed

-- those of the row are forgotten
abbrev pub flags : List ℕ → Node → Node
flags row x = if is_among row x.patch.number then record x { forgotten = true } else x
