use Rattle.std.proofs.Common.{Some, refl, rules, ◌∷◌, []}
use Rattle.clap.proofs.OnLiterals.{clap_on_literals}
use Rattle.fst_program.specs.Arguments.{IsNumber}
use Rattle.fst_program.proofs.arguments.three_blocks.Goals as goal

three : IsNumber (51 ∷ [])
three = search rules

four : IsNumber (52 ∷ [])
four = search rules

pub returns-clause-taken : goal.returns-clause-taken
unfolding clap_on_literals
returns-clause-taken c = refl

pub returns-clause-asked : goal.returns-clause-asked
unfolding clap_on_literals
returns-clause-asked c = (refl, ((Some 3, (three, refl), refl), (Some 4, (four, refl), refl), refl))
