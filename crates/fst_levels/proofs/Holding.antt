-- What depends on a live patch is live.
use Rattle.std.proofs.Common.{ℕ, List}
use Rattle.fst_types.specs.{Closure.{one, join}, Dependencies.{DependsOn, IsLiveNumber}, Facts.IsOnDiskWithAll, Patches.Patch}

-- on disk with all that it depends on
module _ (heads : List Patch) (disk : IsOnDiskWithAll heads) where
  -- what depends on a live patch is live
  pub live_up : (m n : ℕ) → DependsOn heads m n → IsLiveNumber heads n → IsLiveNumber heads m
  live_up m n (one d) l = record { patch = d.patch; head = d.head; numbered = d.numbered; live = λ e. l.live (disk.disk d.patch d.head e n d.named l.patch l.head l.numbered) }
  live_up m n (join {q = k} c d) l = live_up m k c (live_up k n d l)
