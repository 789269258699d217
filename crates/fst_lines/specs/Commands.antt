-- What a script line asks, with JSON as `serde_json` reads it.
use Rattle.std.specs.Prelude.{ℕ, if◌then◌else◌, List, [], ◌∷◌, Option, Some, None, option_and_then, option_map, Result, Ok, Err, nat_lt, length, codes}
use Rattle.std.specs.Str.{is_utf8, bytes_eq}
use Rattle.serde_json.specs.Data.{Data, null, boolean, number, string, array, object}
use Rattle.serde_json.specs.Find.{get, as_str}
use Rattle.serde_json.specs.Read.{read}
use Rattle.fst_types.specs.declared.fault.Fault.{Fault}
use Rattle.fst_types.specs.declared.fault.Fault.TheVariants as fault
use Rattle.fst_lines.specs.declared.failure.Failure.{Failure}
use Rattle.fst_lines.specs.Members.{has_only, number_at, long_at, bytes_at, numbers_at, numbers_if_any, failure_if_any}

pub data Command : Type 0 where
  patch : (block at : ℕ) (bytes after : List ℕ) → Command
  empty : (after : List ℕ) → Command
  gate : Command
  depend : (number : ℕ) (on : List ℕ) → Command
  seal : (number : ℕ) → Command
  choose : (block : ℕ) → Command
  pick : Command
  write : (block : ℕ) → Command
  done : (ticket : ℕ) (fail : Option Failure) → Command
  retry : (block : ℕ) → Command
  evict : (block : ℕ) → Command
  show : (block : ℕ) → Command
  place : (number : ℕ) → Command
  forget : Command
  stat : Command
  crash : (finish : List ℕ) → Command
  group_new : Command
  group_after : (group on : ℕ) → Command
  group_patch : (group block at : ℕ) (bytes : List ℕ) → Command
  group_close : (group : ℕ) → Command

-- the greatest length of a line, without its end
abbrev pub max_line : ℕ
max_line = 65536

-- the value of a line's bytes, if they are text
abbrev pub value_of : List ℕ → Option Data
value_of line = if is_utf8 line then read line else None

-- each command: its members and no other, read one after another
abbrev pub patch_in : Data → Option Command
patch_in d =
    if has_only (codes "do" ∷ codes "block" ∷ codes "at" ∷ codes "data" ∷ codes "after" ∷ []) d then
    option_and_then (λ block.
    option_and_then (λ at.
    option_and_then (λ bytes.
    option_map (patch block at bytes)
    (numbers_if_any (get (codes "after") d)))
    (bytes_at (codes "data") d))
    (number_at (codes "at") d))
    (number_at (codes "block") d)
    else None

abbrev pub empty_in : Data → Option Command
empty_in d = if has_only (codes "do" ∷ codes "after" ∷ []) d then option_map empty (numbers_if_any (get (codes "after") d)) else None

abbrev pub depend_in : Data → Option Command
depend_in d =
    if has_only (codes "do" ∷ codes "gate" ∷ codes "on" ∷ []) d then
    option_and_then (λ number. option_map (depend number) (numbers_at (codes "on") d)) (number_at (codes "gate") d)
    else None

abbrev pub done_in : Data → Option Command
done_in d =
    if has_only (codes "do" ∷ codes "ticket" ∷ codes "fail" ∷ []) d then
    option_and_then (λ ticket. option_map (done ticket) (failure_if_any (get (codes "fail") d))) (long_at (codes "ticket") d)
    else None

abbrev pub crash_in : Data → Option Command
crash_in d = if has_only (codes "do" ∷ codes "finish" ∷ []) d then option_map crash (numbers_if_any (get (codes "finish") d)) else None

-- the number of a command that has no other member
abbrev pub only_number_in : List ℕ → Data → Option ℕ
only_number_in name d = if has_only (codes "do" ∷ name ∷ []) d then number_at name d else None

-- a command that has no member
abbrev pub alone_in : Command → Data → Option Command
alone_in command d = if has_only (codes "do" ∷ []) d then Some command else None

abbrev pub group_after_in : Data → Option Command
group_after_in d =
    if has_only (codes "do" ∷ codes "group" ∷ codes "on" ∷ []) d then
    option_and_then (λ group. option_map (group_after group) (number_at (codes "on") d)) (number_at (codes "group") d)
    else None

abbrev pub group_patch_in : Data → Option Command
group_patch_in d =
    if has_only (codes "do" ∷ codes "group" ∷ codes "block" ∷ codes "at" ∷ codes "data" ∷ []) d then
    option_and_then (λ group.
    option_and_then (λ block.
    option_and_then (λ at.
    option_map (group_patch group block at)
    (bytes_at (codes "data") d))
    (number_at (codes "at") d))
    (number_at (codes "block") d))
    (number_at (codes "group") d)
    else None

-- the commands on groups
abbrev pub group_command_named : List ℕ → Data → Option Command
group_command_named name d =
    if bytes_eq name (codes "group") then alone_in group_new d
    else if bytes_eq name (codes "group_after") then group_after_in d
    else if bytes_eq name (codes "group_patch") then group_patch_in d
    else if bytes_eq name (codes "group_close") then option_map group_close (only_number_in (codes "group") d)
    else None

-- the commands on blocks, and those
abbrev pub block_command_named : List ℕ → Data → Option Command
block_command_named name d =
    if bytes_eq name (codes "choose") then option_map choose (only_number_in (codes "block") d)
    else if bytes_eq name (codes "pick") then alone_in pick d
    else if bytes_eq name (codes "write") then option_map write (only_number_in (codes "block") d)
    else if bytes_eq name (codes "done") then done_in d
    else if bytes_eq name (codes "retry") then option_map retry (only_number_in (codes "block") d)
    else if bytes_eq name (codes "evict") then option_map evict (only_number_in (codes "block") d)
    else if bytes_eq name (codes "show") then option_map show (only_number_in (codes "block") d)
    else if bytes_eq name (codes "crash") then crash_in d
    else group_command_named name d

-- the commands on patches, and those
abbrev pub command_named : List ℕ → Data → Option Command
command_named name d =
    if bytes_eq name (codes "patch") then patch_in d
    else if bytes_eq name (codes "empty") then empty_in d
    else if bytes_eq name (codes "gate") then alone_in gate d
    else if bytes_eq name (codes "depend") then depend_in d
    else if bytes_eq name (codes "seal") then option_map seal (only_number_in (codes "gate") d)
    else if bytes_eq name (codes "place") then option_map place (only_number_in (codes "patch") d)
    else if bytes_eq name (codes "forget") then alone_in forget d
    else if bytes_eq name (codes "stat") then alone_in stat d
    else block_command_named name d

abbrev pub command_in : Data → Option Command
command_in d = option_and_then (λ name. command_named name d) (option_and_then as_str (get (codes "do") d))

abbrev pub or_field : Option Command → Result Command Fault
or_field None = Err fault.BadField
or_field (Some command) = Ok command

abbrev pub command_of_value : Option Data → Result Command Fault
command_of_value None = Err fault.BadLine
command_of_value (Some null) = Err fault.BadLine
command_of_value (Some (boolean b)) = Err fault.BadLine
command_of_value (Some (number n)) = Err fault.BadLine
command_of_value (Some (string s)) = Err fault.BadLine
command_of_value (Some (array ds)) = Err fault.BadLine
command_of_value (Some (object ms)) = or_field (command_in (object ms))

-- the command of a line, or why the line is none
abbrev pub command_of : List ℕ → Result Command Fault
command_of line = if nat_lt max_line (length line) then Err fault.BadLine else command_of_value (value_of line)
