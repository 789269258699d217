-- What the program's words ask.
use Rattle.std.specs.Prelude.{◌≡◌, ℕ, ◌<◌, ◌^◌, Bool, true, false, List, [], Option, Some, None, unwrap_or, codes}
use Rattle.std.specs.Str.{bytes_eq}
use Rattle.std.specs.Str.Parse.{IsNumeral, digits_value, without_leading_plus}
use Rattle.clap.specs.Words.{Row, Text, fault_of, one_of, subcommand_of}
use Rattle.fst_program.specs.Program.{program}
use Rattle.fst_program.specs.declared.arguments.Run.{Run}
use Rattle.fst_program.specs.declared.arguments.Run.TheVariants.{Play, Crew}

-- the text is a number of 32 bits
abbrev pub IsNumber : Text → Type 0
IsNumber t = IsNumeral 10 (without_leading_plus t) × (digits_value 10 (without_leading_plus t) < 2 ^ 32)

-- the number of a text, if there is one
abbrev pub IsRead : Option Text → Option ℕ → Type 0
IsRead None r = r ≡ None
IsRead (Some t) (Some n) = IsNumber t × (n ≡ digits_value 10 (without_leading_plus t))
IsRead (Some t) None = IsNumber t → ⊥

-- the option has this number, or the default where it is not given
abbrev pub Has : Text → ℕ → List Row → ℕ → Type 0
Has id default rows n = (o : Option ℕ) × IsRead (one_of id rows) o × (n ≡ unwrap_or o default)

abbrev pub AsksPlay : List Row → Run → Type 0
AsksPlay rows (Play blocks size resident) = Has (codes "blocks") 4 rows blocks × Has (codes "size") 4 rows size × IsRead (one_of (codes "resident") rows) resident
AsksPlay rows (Crew files workers rounds) = ⊥

abbrev pub AsksCrew : List Row → Run → Type 0
AsksCrew rows (Play blocks size resident) = ⊥
AsksCrew rows (Crew files workers rounds) = Has (codes "files") 2 rows files × Has (codes "workers") 2 rows workers × Has (codes "rounds") 10 rows rounds

-- what the subcommand asks: `crew`, or else `play`
abbrev pub AsksNamed : Bool → List Row → Run → Type 0
AsksNamed true rows run = AsksCrew rows run
AsksNamed false rows run = AsksPlay rows run

-- no subcommand is `play` with nothing said
abbrev pub AsksAt : Option (Text × List Row) → Run → Type 0
AsksAt None run = run ≡ Play 4 4 None
AsksAt (Some p) run = AsksNamed (bytes_eq p.0 (codes "crew")) p.1 run

-- `clap` finds no fault in the words, so that the subcommand is not `help`, and this is what they ask
abbrev pub Asks : List Text → Run → Type 0
Asks words run = (fault_of program words ≡ []) × AsksAt (subcommand_of program words) run
