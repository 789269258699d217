-- What a command has with one option more, and what an option of a number is.
use Rattle.std.proofs.Common.{◌≡◌, ◌||◌, ℕ, List, Bor, Option, Some, pos, Bool, false, Result, Ok, Err, IfOk, refl, ap, ◌∙◌}
use Rattle.clap.specs.declared.builder.arg.Arg.{Arg}
use Rattle.clap.specs.declared.builder.command.Command.{Command}
use Rattle.clap.specs.declared.builder.command.Command.TheViews.{out-Command as fields_of}
use Rattle.clap.specs.Words.{AddsArg, App, app_of, new_rule, rule_of, with_rule}
use Rattle.clap.specs.Walk.{Rule}
use Rattle.clap.specs.declared.builder.value_parser.ValueParser.{ValueParser}
use Rattle.clap.specs.declared.builder.value_parser.ValueParser.TheVariants as parsers
use Rattle.fst_program.specs.Program.{number_rule}

same_app : (x y : App) (r s : Rule) → x ≡ y → r ≡ s → with_rule x r ≡ with_rule y s
same_app x y r s e f = rw (e, f) refl

same_or : (x y : Bool) → x ≡ false → y ≡ false → (x || y) ≡ false
same_or x y e f = rw (e, f) refl

pub rule_added : (old : Command) (a : Arg) (new : Command) (app : App) (rule : Rule)
    → app_of old ≡ app → rule_of a ≡ rule → a.global ≡ false → AddsArg old a new → app_of new ≡ with_rule app rule
rule_added old a new app rule before same local adds = adds.shape local ∙ same_app _ _ _ _ before same

pub still_local : (old : Command) (a : Arg) (new : Command)
    → (fields_of old).has_globals ≡ false → a.global ≡ false → AddsArg old a new → (fields_of new).has_globals ≡ false
still_local old a new before local adds = adds.globals ∙ same_or _ _ before local

pub rule_added_at_ok : {E : Type 0} (old : Command) (a : Arg) (r : Result Command E) (app : App) (rule : Rule)
    → app_of old ≡ app → rule_of a ≡ rule → a.global ≡ false → IfOk r (λ new. AddsArg old a new) → IfOk r (λ new. app_of new ≡ with_rule app rule)
rule_added_at_ok old a (Ok new) app rule before same local adds = rule_added old a new app rule before same local adds
rule_added_at_ok old a (Err e) app rule before same local adds = tt

pub still_local_at_ok : {E : Type 0} (old : Command) (a : Arg) (r : Result Command E)
    → (fields_of old).has_globals ≡ false → a.global ≡ false → IfOk r (λ new. AddsArg old a new) → IfOk r (λ new. (fields_of new).has_globals ≡ false)
still_local_at_ok old a (Ok new) before local adds = still_local old a new before local adds
still_local_at_ok old a (Err e) before local adds = tt

-- an option of a number, whatever its text in help
number_same : (a : Arg) (name : Bor (List ℕ)) (help : Option (Bor (List ℕ))) (parser : Option ValueParser) → rule_of a ≡ new_rule name.now → parser ≡ Some (parsers.Signed (pos 0) (pos 4294967295))
    → rule_of (record a { long = Some name; value_parser = parser; help = help }) ≡ number_rule name.now
number_same a name help parser rule given = ap (λ (r : Rule). record r { long = Some name.now; parser = parser }) rule ∙ ap (λ (p : Option ValueParser). record (new_rule name.now) { long = Some name.now; parser = p }) given

pub number_given : (a long with_parser done : Arg) (name : Bor (List ℕ)) (help : Option (Bor (List ℕ)))
    → rule_of a ≡ new_rule name.now → long ≡ record a { long = Some name } → with_parser ≡ record long { value_parser = with_parser.value_parser }
    → done ≡ record with_parser { help = help } → with_parser.value_parser ≡ Some (parsers.Signed (pos 0) (pos 4294967295)) → rule_of done ≡ number_rule name.now
number_given a long with_parser done name help rule e f g given =
    ap rule_of (g ∙ ap (λ (x : Arg). record x { help = help }) (f ∙ ap (λ (x : Arg). record x { value_parser = with_parser.value_parser }) e)) ∙ number_same a name help with_parser.value_parser rule given
