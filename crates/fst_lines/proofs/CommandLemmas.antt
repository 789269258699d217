-- What a line asks, from what is known of its bytes.
use Rattle.std.proofs.Common.{◌≡◌, ℕ, ◌≤◌, ◌<◌, Bool, true, false, List, length, Option, Some, None, Result, Ok, Err, refl, sym, ap, ◌∙◌, subst, arith}
use Rattle.std.specs.Prelude.{if◌then◌else◌, is_some}
use Rattle.std.specs.Str.{IsUtf8, is_utf8}
use Rattle.std.proofs.lemmas.Str.{is_utf8-from_IsUtf8, IsUtf8-from_is_utf8}
use Rattle.std.proofs.lemmas.Bool.Decides.{nat_tests}
use Rattle.serde_json.specs.Data.{Data, null, boolean, number, string, array, object, Members}
use Rattle.serde_json.specs.Find.{as_object}
use Rattle.serde_json.specs.Read.{read}
use Rattle.fst_types.specs.declared.fault.Fault.{Fault}
use Rattle.fst_types.specs.declared.fault.Fault.TheVariants as fault
use Rattle.fst_lines.specs.Commands.{Command, max_line, value_of, command_in, or_field, command_of_value, command_of}
use Rattle.fst_lines.specs.Parsing.{command, Gives, Parses}
use Rattle.fst_lines.specs.declared.command.Command.{Command as Parsed}

pub value_of-text : (line : List ℕ) → IsUtf8 line → value_of line ≡ read line
value_of-text line h = ap (λ t. if t then read line else None) (is_utf8-from_IsUtf8 line h)

pub value_of-none : (line : List ℕ) → (IsUtf8 line → read line ≡ None) → value_of line ≡ None
value_of-none line h = by_test (is_utf8 line) (λ e. h (IsUtf8-from_is_utf8 line e))
  where
    by_test : (t : Bool) → (t ≡ true → read line ≡ None) → (if t then read line else None) ≡ None
    by_test true f = f refl
    by_test false f = refl

pub command_of-short : (line : List ℕ) → length line ≤ max_line → command_of line ≡ command_of_value (value_of line)
command_of-short line h = grind (arith, nat_tests)

at_object : (d : Data) → is_some (as_object d) ≡ true → command_of_value (Some d) ≡ or_field (command_in d)
at_object null h = cc
at_object (boolean b) h = cc
at_object (number n) h = cc
at_object (string s) h = cc
at_object (array ds) h = cc
at_object (object os) h = refl

pub at_no_object : (d : Data) → is_some (as_object d) ≡ false → command_of_value (Some d) ≡ Err fault.BadLine
at_no_object null h = refl
at_no_object (boolean b) h = refl
at_no_object (number n) h = refl
at_no_object (string s) h = refl
at_no_object (array ds) h = refl
at_no_object (object os) h = cc

parses_field : (r : Result Parsed Fault) (o : Option Command) → Gives command r o → Parses r (or_field o)
parses_field (Ok c) o h = ap or_field h
parses_field (Err fault.Memory) o h = tt
parses_field (Err fault.BadField) o h = ap or_field h
parses_field (Err _) o h = absurd h

pub Parses-object : (r : Result Parsed Fault) (d : Data) → is_some (as_object d) ≡ true → Gives command r (command_in d) → Parses r (command_of_value (Some d))
Parses-object r d is h = subst (Parses r) (sym (at_object d is)) (parses_field r (command_in d) h)

pub Parses-short : (r : Result Parsed Fault) (line : List ℕ) (d : Data) → length line ≤ max_line → value_of line ≡ Some d → Parses r (command_of_value (Some d)) → Parses r (command_of line)
Parses-short r line d short value h = subst (Parses r) (sym (command_of-short line short ∙ ap command_of_value value)) h

pub command_of-long : (line : List ℕ) → max_line < length line → command_of line ≡ Err fault.BadLine
command_of-long line h = grind (arith, nat_tests)
