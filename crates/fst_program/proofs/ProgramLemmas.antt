-- What `clap` makes of the program's two commands.
use Rattle.std.proofs.Common.{◌≡◌, List, [], Option, true, refl, sym, subst}
use Rattle.clap.specs.declared.error.Error.{Error}
use Rattle.clap.specs.Words.{App, HasKind, Row, Text, fault_of, is_simple, is_simple_and_free, subcommand_of}
use Rattle.clap.proofs.OnLiterals.{clap_on_literals}
use Rattle.fst_program.specs.Arguments.{AsksAt}
use Rattle.fst_program.specs.Program.{program}
use Rattle.fst_program.specs.declared.arguments.Run.{Run}

program_is_simple : is_simple program ≡ true
unfolding clap_on_literals
program_is_simple = refl

-- no argument has a rule on another
program_is_free : is_simple_and_free program ≡ true
unfolding clap_on_literals
program_is_free = refl

module _ (a : App) (words : List Text) (same : a ≡ program) where
  pub no_fault : (is_simple_and_free a ≡ true → fault_of a words ≡ []) → fault_of program words ≡ []
  no_fault h = subst (λ b. fault_of b words ≡ []) same (h (subst (λ b. is_simple_and_free b ≡ true) (sym same) program_is_free))

  pub has_fault : (e : Error) → (is_simple_and_free a ≡ true → HasKind (fault_of a words) e) → HasKind (fault_of program words) e
  has_fault e h = subst (λ b. HasKind (fault_of b words) e) same (h (subst (λ b. is_simple_and_free b ≡ true) (sym same) program_is_free))

  -- what the matches ask is what the words ask
  pub words_ask : {R : Type 0} (met : Option (Text × List Row)) (run : Run) → (is_simple a ≡ true → R × (met ≡ subcommand_of a words)) → AsksAt met run → AsksAt (subcommand_of program words) run
  words_ask met run h asks =
      subst (λ b. AsksAt (subcommand_of b words) run) same (subst (λ m. AsksAt m run) (h (subst (λ b. is_simple b ≡ true) (sym same) program_is_simple)).1 asks)
