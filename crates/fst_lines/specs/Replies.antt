-- The text of each reply, without the end of its line.
use Rattle.std.specs.Prelude.{ℕ, List, [], ◌∷◌, ◌++◌, Option, Some, None, decimal, codes}
use Rattle.std.specs.List.{flat_map}
use Rattle.hex.specs.Hex.{encode_lower}
use Rattle.fst_types.specs.declared.grade.Grade.{Grade}
use Rattle.fst_types.specs.declared.grade.Grade.TheVariants as grade
use Rattle.fst_types.specs.declared.place.Place.{Place}
use Rattle.fst_types.specs.declared.place.Place.TheVariants as at_place
use Rattle.fst_types.specs.declared.settled.Settled.{Settled}
use Rattle.fst_types.specs.declared.settled.Settled.TheVariants as settled
use Rattle.fst_types.specs.declared.fault.What.{What}
use Rattle.fst_types.specs.declared.fault.What.TheVariants as what
use Rattle.fst_types.specs.declared.fault.Fault.{Fault}
use Rattle.fst_types.specs.declared.fault.Fault.TheVariants as fault
use Rattle.fst_types.specs.FaultNumbers.{number_of}
use Rattle.fst_types.specs.Events.{Stat}
use Rattle.fst_lines.specs.Pieces.{commas}

abbrev pub what_name : What → List ℕ
what_name what.Heads = codes "heads"
what_name what.Numbers = codes "numbers"
what_name what.Tickets = codes "tickets"
what_name what.Flights = codes "flights"
what_name what.Resident = codes "resident"
what_name what.Groups = codes "groups"

-- the patch that is held, or the thing that is full
abbrev pub refusal_detail : Fault → List ℕ
refusal_detail (fault.HardHeld p) = codes " held " ++ decimal p.0
refusal_detail (fault.Full what) = codes " " ++ what_name what
refusal_detail _ = []

abbrev pub refusal : Fault → List ℕ
refusal f = codes "refused " ++ decimal (number_of f) ++ refusal_detail f

abbrev pub grade_name : Grade → List ℕ
grade_name grade.Hard = codes "hard"
grade_name grade.Soft = codes "soft"

abbrev pub patch_text : ℕ → Grade → List ℕ
patch_text number grade = codes "patch " ++ decimal number ++ codes " " ++ grade_name grade

abbrev pub empty_text : ℕ → List ℕ
empty_text number = codes "empty " ++ decimal number

abbrev pub gate_text : ℕ → List ℕ
gate_text number = codes "gate " ++ decimal number

abbrev pub depend_text : ℕ → List ℕ
depend_text number = codes "depend " ++ decimal number

abbrev pub seal_text : ℕ → List ℕ
seal_text number = codes "seal " ++ decimal number

abbrev pub group_text : ℕ → List ℕ
group_text number = codes "group " ++ decimal number

abbrev pub group_after_text : ℕ → List ℕ
group_after_text number = codes "group_after " ++ decimal number

abbrev pub group_close_text : ℕ → List ℕ
group_close_text number = codes "group_close " ++ decimal number

abbrev pub chosen_text : ℕ → List ℕ → List ℕ
chosen_text block [] = codes "chosen " ++ decimal block ++ codes " none"
chosen_text block (p ∷ ps) = codes "chosen " ++ decimal block ++ codes " patches " ++ commas (p ∷ ps)

-- the block that is picked, if one is
abbrev pub pick_text : Option ℕ → List ℕ
pick_text None = codes "pick none"
pick_text (Some block) = codes "pick " ++ decimal block

abbrev pub flight_text : (ticket block : ℕ) (patches image : List ℕ) → List ℕ
flight_text ticket block patches image =
    codes "flight " ++ decimal ticket ++ codes " block " ++ decimal block ++ codes " patches " ++ commas patches ++ codes " image " ++ encode_lower image

abbrev pub done_text : (ticket block : ℕ) → List ℕ
done_text ticket block = codes "done " ++ decimal ticket ++ codes " block " ++ decimal block

abbrev pub stalled_text : (ticket block : ℕ) → List ℕ
stalled_text ticket block = codes "stalled " ++ decimal ticket ++ codes " block " ++ decimal block

abbrev pub lost_text : (ticket block : ℕ) → List ℕ
lost_text ticket block = codes "lost " ++ decimal ticket ++ codes " block " ++ decimal block

-- what is told of a settled write
abbrev pub settled_text : (ticket block : ℕ) → Settled → List ℕ
settled_text ticket block settled.Landed = done_text ticket block
settled_text ticket block settled.Stalled = stalled_text ticket block
settled_text ticket block settled.Lost = lost_text ticket block

abbrev pub evict_text : ℕ → List ℕ
evict_text block = codes "evict " ++ decimal block

abbrev pub show_text : (block : ℕ) (bytes : List ℕ) → List ℕ
show_text block bytes = codes "show " ++ decimal block ++ codes " " ++ encode_lower bytes

abbrev pub place_name : Place → List ℕ
place_name at_place.Memory = codes "memory"
place_name at_place.Flight = codes "flight"
place_name at_place.Disk = codes "disk"

-- a number that was not given has no place, and is refused
abbrev pub place_text : ℕ → Option Place → List ℕ
place_text number None = refusal fault.NoPatch
place_text number (Some place) = codes "place " ++ decimal number ++ codes " " ++ place_name place

abbrev pub forget_text : ℕ → List ℕ
forget_text patches = codes "forget " ++ decimal patches

abbrev pub stat_text : Stat → List ℕ
stat_text s = codes "stat made " ++ decimal s.made ++ codes " live " ++ decimal s.live ++ codes " undo " ++ decimal s.undo ++ codes " flights " ++ decimal s.flights

-- the bytes of a block in a crash's reply
abbrev pub crash_part : List ℕ → List ℕ
crash_part bytes = 32 ∷ encode_lower bytes

-- the bytes of each block, in order of blocks
abbrev pub crash_text : List (List ℕ) → List ℕ
crash_text blocks = codes "crash" ++ flat_map crash_part blocks
