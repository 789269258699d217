-- Short lines: the values that they are, and what the lines ask that change a block or put things in order.
use Rattle.std.specs.Prelude.{◌≡◌, ◌⊎◌, ℕ, List, [], ◌∷◌, Option, Some, None, Ok, option_map, option_and_then, codes}
use Rattle.json.specs.Token.{Token}
use Rattle.serde_json.specs.Data.{Data, unsigned, number, string, object, no_members, put}
use Rattle.serde_json.specs.Read.{number_of}
use Rattle.hex.specs.Hex.{decode_of}
use Rattle.fst_lines.specs.Members.{number_in}
use Rattle.fst_lines.specs.Commands.{Command, patch, empty, depend, group_after, group_patch, command_in}

-- what it does
abbrev pub alone_data : List ℕ → Data
alone_data name = object (put (codes "do") (string name) no_members)

-- what it does, and a number under a key
abbrev pub short_data : (name key : List ℕ) → ℕ → Data
short_data name key n = object (put key (number (unsigned n)) (put (codes "do") (string name) no_members))

-- a number of 32 bits
abbrev pub small_number : List ℕ → Option ℕ
small_number text = option_and_then number_in (option_map number (number_of text))

-- the numbers of a list after the bracket that opens it, and the tokens after the one that closes it
abbrev pub list_of : List Token → Option (List ℕ × List Token)
list_of [] = None
list_of (Token.begin_object ∷ ts) = None
list_of (Token.end_object ∷ ts) = None
list_of (Token.begin_array ∷ ts) = None
list_of (Token.end_array ∷ ts) = Some ([], ts)
list_of (Token.key s ∷ ts) = None
list_of (Token.string s ∷ ts) = None
list_of (Token.number s ∷ ts) = option_and_then (λ n. option_map (λ p. (n ∷ p.0, p.1)) (list_of ts)) (small_number s)
list_of (Token.boolean b ∷ ts) = None
list_of (Token.null ∷ ts) = None
list_of (Token.bad ∷ ts) = None

-- a member at the front of the tokens, and the tokens after it
abbrev pub NumberUnder : (name : List ℕ) → ℕ → (before after : List Token) → Type 0
NumberUnder name n before after = (text : List ℕ) × (before ≡ Token.key name ∷ Token.number text ∷ after) × (small_number text ≡ Some n)

abbrev pub BytesUnder : (name bytes : List ℕ) (before after : List Token) → Type 0
BytesUnder name bytes before after = (text : List ℕ) × (before ≡ Token.key name ∷ Token.string text ∷ after) × (decode_of text ≡ Ok bytes)

-- the members of a change that it has in a group and in none
abbrev pub ChangeNext : (block at : ℕ) (bytes : List ℕ) (before after : List Token) → Type 0
ChangeNext block at bytes before after =
    (past_block past_at : List Token) × NumberUnder (codes "block") block before past_block × NumberUnder (codes "at") at past_block past_at
    × BytesUnder (codes "data") bytes past_at after

-- the line ends with the list of the names
abbrev pub NamesListed : List Token → List ℕ → Type 0
NamesListed tokens names = (rest : List Token) × (tokens ≡ Token.begin_array ∷ rest) × (list_of rest ≡ Some (names, Token.end_object ∷ []))

-- the line ends with that list under a key
abbrev pub NamesUnder : List ℕ → List Token → List ℕ → Type 0
NamesUnder key tokens names = (rest : List Token) × (tokens ≡ Token.key key ∷ rest) × NamesListed rest names

-- the line ends with the names of patches, or with none
abbrev pub NamesAtEnd : List Token → List ℕ → Type 0
NamesAtEnd tokens names = ((tokens ≡ Token.end_object ∷ []) × (names ≡ [])) ⊎ NamesUnder (codes "after") tokens names

-- what follows the name of a change is that change
abbrev pub IsPatch : List Token → Command → Type 0
IsPatch tokens c =
    (block at : ℕ) × (bytes after : List ℕ) × (past_bytes : List Token) × (c ≡ patch block at bytes after)
    × ChangeNext block at bytes tokens past_bytes × NamesAtEnd past_bytes after

-- what follows the name of a group's change is that change
abbrev pub IsGroupPatch : List Token → Command → Type 0
IsGroupPatch tokens c =
    (group block at : ℕ) × (bytes : List ℕ) × (past_group : List Token) × (c ≡ group_patch group block at bytes)
    × NumberUnder (codes "group") group tokens past_group × ChangeNext block at bytes past_group (Token.end_object ∷ [])

-- what follows the name of an empty patch is that patch
abbrev pub IsEmpty : List Token → Command → Type 0
IsEmpty tokens c = (after : List ℕ) × (c ≡ empty after) × NamesAtEnd tokens after

-- what a gate gains
abbrev pub IsDepend : List Token → Command → Type 0
IsDepend tokens c =
    (gate : ℕ) × (on : List ℕ) × (past_gate : List Token) × (c ≡ depend gate on) × NumberUnder (codes "gate") gate tokens past_gate × NamesUnder (codes "on") past_gate on

-- the group that a group comes after
abbrev pub IsGroupAfter : List Token → Command → Type 0
IsGroupAfter tokens c =
    (group on : ℕ) × (past_group : List Token) × (c ≡ group_after group on) × NumberUnder (codes "group") group tokens past_group
    × NumberUnder (codes "on") on past_group (Token.end_object ∷ [])

-- the line says what it does, and nothing else
abbrev pub AsksAlone : List Token → Command → Type 0
AsksAlone tokens c =
    (name : List ℕ) × (tokens ≡ Token.begin_object ∷ Token.key (codes "do") ∷ Token.string name ∷ Token.end_object ∷ [])
    × (command_in (alone_data name) ≡ Some c)

-- the line says what it does, and a number under a key
abbrev pub AsksNumbered : List Token → Command → Type 0
AsksNumbered tokens c =
    (name key text : List ℕ) × (n : ℕ) × (tokens ≡ Token.begin_object ∷ Token.key (codes "do") ∷ Token.string name ∷ Token.key key ∷ Token.number text ∷ Token.end_object ∷ [])
    × (number_of text ≡ Some (unsigned n)) × (command_in (short_data name key n) ≡ Some c)

abbrev pub AsksShort : List Token → Command → Type 0
AsksShort tokens c = AsksAlone tokens c ⊎ AsksNumbered tokens c

-- the line says what it does, and what follows says the command
abbrev pub AsksNamed : List ℕ → (List Token → Command → Type 0) → List Token → Command → Type 0
AsksNamed name Is tokens c = (rest : List Token) × (tokens ≡ Token.begin_object ∷ Token.key (codes "do") ∷ Token.string name ∷ rest) × Is rest c

abbrev pub Asks : List Token → Command → Type 0
Asks tokens c =
    AsksShort tokens c ⊎ (AsksNamed (codes "patch") IsPatch tokens c ⊎ (AsksNamed (codes "empty") IsEmpty tokens c ⊎ (AsksNamed (codes "depend") IsDepend tokens c
    ⊎ (AsksNamed (codes "group_patch") IsGroupPatch tokens c ⊎ AsksNamed (codes "group_after") IsGroupAfter tokens c))))
