use Rattle.std.proofs.Common.{◌≡◌, vec_len}
use Rattle.std.specs.Prelude.{All, vec_capacity}
use Rattle.fst_crew.proofs.crews.threads.start_files.Given as goal

abbrev pub invariant-loop-at : goal.invariant-loop-at
invariant-loop-at g l = (vec_len l.files ≡ l.at) × All (λ h. h.promise.0 ≡ l.rounds) l.files.items × (vec_capacity l.files ≡ vec_capacity l.initial.files)
