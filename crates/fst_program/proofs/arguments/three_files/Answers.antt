use Rattle.std.proofs.Common.{Some, refl, rules, ◌∷◌, []}
use Rattle.clap.proofs.OnLiterals.{clap_on_literals}
use Rattle.fst_program.specs.Arguments.{IsNumber}
use Rattle.fst_program.proofs.arguments.three_files.Goals as goal

three : IsNumber (51 ∷ [])
three = search rules

two : IsNumber (50 ∷ [])
two = search rules

ten : IsNumber (49 ∷ 48 ∷ [])
ten = search rules

pub returns-clause-taken : goal.returns-clause-taken
unfolding clap_on_literals
returns-clause-taken c = refl

pub returns-clause-asked : goal.returns-clause-asked
unfolding clap_on_literals
returns-clause-asked c = (refl, ((Some 3, (three, refl), refl), (Some 2, (two, refl), refl), (Some 10, (ten, refl), refl)))
