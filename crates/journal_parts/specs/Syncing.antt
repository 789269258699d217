-- Why a patch is not brought to disk.
use Rattle.std.specs.Prelude.{◌≡◌, ℕ, ◌+◌, ◌*◌}
use Rattle.fst_types.specs.declared.fault.Fault.{Fault}
use Rattle.fst_types.specs.Limits.{max_heads, max_tries}
use Rattle.fst_types.specs.State.{State}
use Rattle.journal_calls.specs.Exhausted.{IsDurable, IsExhausted, IsWriteRefused}
use Rattle.journal_parts.specs.declared.fault.StoreFault.{StoreFault}
use Rattle.journal_parts.specs.declared.fault.StoreFault.TheVariants as store_fault

-- the next write could not be sent out, or patch n is not on disk and nothing more can be written, or as many writes
-- were made as all changes that there can be may take
pub data IsSyncRefused (old new : State) (n : ℕ) : StoreFault → Type 0 where
  unsent : (fault : Fault) → IsWriteRefused new fault → IsSyncRefused old new n (store_fault.Cache fault)
  stuck : (IsDurable new n → ⊥) → IsExhausted new → IsSyncRefused old new n store_fault.Stuck
  spent : (IsDurable new n → ⊥) → new.tickets ≡ old.tickets + max_heads * max_tries → IsSyncRefused old new n store_fault.Stuck
