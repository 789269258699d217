-- Commands that have no member, or one number and no other.
use Rattle.std.specs.Prelude.{ℕ, if◌then◌else◌, List, Option, Some, None, option_and_then, codes}
use Rattle.std.specs.Str.{bytes_eq}
use Rattle.serde_json.specs.Data.{Data}
use Rattle.fst_lines.specs.Commands.{Command, gate, seal, choose, pick, write, retry, evict, show, place, forget, stat, group_new, group_close, alone_in, only_number_in}

-- the command of this name that has no member
abbrev pub alone_named : List ℕ → Option Command
alone_named name =
    if bytes_eq name (codes "gate") then Some gate
    else if bytes_eq name (codes "pick") then Some pick
    else if bytes_eq name (codes "forget") then Some forget
    else if bytes_eq name (codes "stat") then Some stat
    else if bytes_eq name (codes "group") then Some group_new
    else None

-- the member that is the one number of the command of this name, if it has one number and no other member
abbrev pub number_key : List ℕ → List ℕ
number_key name =
    if bytes_eq name (codes "seal") then codes "gate"
    else if bytes_eq name (codes "place") then codes "patch"
    else if bytes_eq name (codes "group_close") then codes "group"
    else codes "block"

-- the command of this name with that number
abbrev pub number_named : List ℕ → ℕ → Option Command
number_named name n =
    if bytes_eq name (codes "seal") then Some (seal n)
    else if bytes_eq name (codes "place") then Some (place n)
    else if bytes_eq name (codes "group_close") then Some (group_close n)
    else if bytes_eq name (codes "choose") then Some (choose n)
    else if bytes_eq name (codes "write") then Some (write n)
    else if bytes_eq name (codes "retry") then Some (retry n)
    else if bytes_eq name (codes "evict") then Some (evict n)
    else if bytes_eq name (codes "show") then Some (show n)
    else None

-- that command, with the number that a value has
abbrev pub one_number_in : List ℕ → Data → Option Command
one_number_in name d = option_and_then (number_named name) (only_number_in (number_key name) d)

-- the command that has no member, if there is one, and else that with one number
abbrev pub either_in : Option Command → List ℕ → Data → Option Command
either_in (Some command) name d = alone_in command d
either_in None name d = one_number_in name d
