-- What `clap`'s errors say of the words, and how a play and a crew end well.
use Rattle.std.proofs.Common.{◌≡◌, ◌≢◌, ◌*◌, ℕ, List, Result, Ok, Err, IsOk, OnOk, refl, subst, inl, inr}
use Rattle.std.proofs.lemmas.Bool.{false≢true}
use Rattle.clap.specs.declared.error.Error.{Error}
use Rattle.clap.specs.declared.error.kind.ErrorKind.TheVariants.{DisplayHelp, OutOfMemory}
use Rattle.clap.specs.Words.{HasKind, Text, fault_of, kind_of}
use Rattle.fst_crew.specs.Crewing.{told}
use Rattle.fst_program.specs.Arguments.{Asks}
use Rattle.fst_program.specs.Program.{program}
use Rattle.fst_program.specs.declared.arguments.Run.{Run}
use Rattle.fst_program.specs.Status.{AreRefused}

pub fault_found : (words : List Text) (e : Error) → HasKind (fault_of program words) e → kind_of e ≢ DisplayHelp → kind_of e ≢ OutOfMemory → AreRefused words
fault_found words e (inl memory) no_help no_memory = absurd (no_memory memory)
fault_found words e (inr among) no_help no_memory = inl (kind_of e, among, no_help)

pub same_told : (files files' rounds rounds' : ℕ) (blocks : List (List ℕ)) → files ≡ files' → rounds ≡ rounds' → told (files * rounds) blocks ≡ told (files' * rounds') blocks
same_told files files' rounds rounds' blocks f r = rw (f, r) refl

pub asks_same : (words : List Text) (run run' : Run) → run ≡ run' → Asks words run → Asks words run'
asks_same words run run' same asks = subst (λ (r : Run). Asks words r) same asks

-- what is said of `Ok`, where that is the answer
pub at_ok : {T E P : Type 0} (r : Result T E) → IsOk r → OnOk r P → P
at_ok (Ok x) ok p = p
at_ok (Err e) ok p = absurd (false≢true ok)
