-- The members of a JSON object, and what may stand in them; hex as `hex` reads it.
use Rattle.std.specs.Prelude.{ℕ, ◌^◌, ◌-◌, ◌&&◌, if◌then◌else◌, Bool, true, false, List, [], ◌∷◌, Option, Some, None, option_and_then, option_map, Result, Ok, Err, nat_le, codes}
use Rattle.std.specs.List.{list_any}
use Rattle.std.specs.Str.{bytes_eq}
use Rattle.serde_json.specs.Data.{Data, Items, no_items, item, Members, no_members, member}
use Rattle.serde_json.specs.Find.{get, as_number, as_str, as_array, as_object, as_u64}
use Rattle.hex.specs.Hex.{decode_of}
use Rattle.fst_lines.specs.declared.failure.Failure.{Failure}
use Rattle.fst_lines.specs.declared.failure.Failure.TheVariants as failures

abbrev pub is_one_of : List (List ℕ) → List ℕ → Bool
is_one_of names key = list_any (bytes_eq key) names

-- no member but these
abbrev pub only : List (List ℕ) → Members → Bool
only names no_members = true
only names (member key d ms) = is_one_of names key && only names ms

abbrev pub has_only : List (List ℕ) → Data → Bool
has_only names d = option_and_is (only names) (as_object d)
  where
    option_and_is : (Members → Bool) → Option Members → Bool
    option_and_is p None = false
    option_and_is p (Some ms) = p ms

abbrev pub up_to : ℕ → ℕ → Option ℕ
up_to most n = if nat_le n most then Some n else None

-- a number of 64 bits, and one of 32
abbrev pub long_in : Data → Option ℕ
long_in d = option_and_then as_u64 (as_number d)

abbrev pub number_in : Data → Option ℕ
number_in d = option_and_then (up_to (2 ^ 32 - 1)) (long_in d)

abbrev pub numbers_of : Items → Option (List ℕ)
numbers_of no_items = Some []
numbers_of (item d ds) = option_and_then (λ n. option_map (λ ns. n ∷ ns) (numbers_of ds)) (number_in d)

abbrev pub numbers_in : Data → Option (List ℕ)
numbers_in d = option_and_then numbers_of (as_array d)

abbrev pub if_ok : {A E : Type 0} → Result A E → Option A
if_ok (Ok x) = Some x
if_ok (Err e) = None

abbrev pub bytes_in : Data → Option (List ℕ)
bytes_in d = option_and_then (λ text. if_ok (decode_of text)) (as_str d)

abbrev pub failure_named : List ℕ → Option Failure
failure_named name =
    if bytes_eq name (codes "before") then Some failures.Before
    else if bytes_eq name (codes "after") then Some failures.After
    else if bytes_eq name (codes "read") then Some failures.Read
    else None

abbrev pub failure_in : Data → Option Failure
failure_in d = option_and_then (λ name. failure_named name) (as_str d)

-- a member that has to be there
abbrev pub number_at : List ℕ → Data → Option ℕ
number_at name d = option_and_then number_in (get name d)

abbrev pub long_at : List ℕ → Data → Option ℕ
long_at name d = option_and_then long_in (get name d)

abbrev pub bytes_at : List ℕ → Data → Option (List ℕ)
bytes_at name d = option_and_then bytes_in (get name d)

abbrev pub numbers_at : List ℕ → Data → Option (List ℕ)
numbers_at name d = option_and_then numbers_in (get name d)

-- a list that may be left out, which is then empty
abbrev pub numbers_if_any : Option Data → Option (List ℕ)
numbers_if_any None = Some []
numbers_if_any (Some d) = numbers_in d

-- a failure that may be left out
abbrev pub failure_if_any : Option Data → Option (Option Failure)
failure_if_any None = Some None
failure_if_any (Some d) = option_map Some (failure_in d)
