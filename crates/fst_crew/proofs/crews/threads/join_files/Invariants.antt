use Rattle.std.proofs.Common.{◌≡◌, ◌+◌, ◌*◌, ◌≤◌, vec_len}
use Rattle.std.specs.Prelude.{None, sum_by, All, vec_capacity}
use Rattle.fst_crew.proofs.crews.threads.join_files.Given as goal

abbrev pub invariant-loop-handle : goal.invariant-loop-handle
invariant-loop-handle g l =
    All (λ h. h.promise.0 ≡ l.rounds) l.files.items
    × (vec_len l.shares + vec_len l.files ≤ vec_capacity l.shares)
    × (l.lowest ≡ None → sum_by (λ s. s) l.shares.items + vec_len l.files * l.rounds ≡ vec_len l.initial.files * l.rounds)

abbrev pub decreases-loop-handle : goal.decreases-loop-handle
decreases-loop-handle g l = vec_len l.files
