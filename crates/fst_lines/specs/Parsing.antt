-- The program's commands as the script's.
use Rattle.std.specs.Prelude.{◌≡◌, ℕ, List, Option, Some, None, Result, Ok, Err, map}
use Rattle.fst_types.specs.declared.number.BlockNo.{BlockNo}
use Rattle.fst_types.specs.declared.number.PatchNo.{PatchNo}
use Rattle.fst_types.specs.declared.fault.Fault.{Fault}
use Rattle.fst_types.specs.declared.fault.Fault.TheVariants as fault
use Rattle.fst_lines.specs.Commands.{Command, patch, empty, gate, depend, seal, choose, pick, write, done, retry, evict, show, place, forget, stat, crash, group_new, group_after, group_patch, group_close}
use Rattle.fst_lines.specs.declared.command.Command.{Command as Parsed}
use Rattle.fst_lines.specs.declared.command.Command.TheVariants as parsed

abbrev pub block_numbers : List BlockNo → List ℕ
block_numbers blocks = map (λ b. b.0) blocks

abbrev pub patch_numbers : List PatchNo → List ℕ
patch_numbers patches = map (λ p. p.0) patches

abbrev pub command : Parsed → Command
command (parsed.Patch block at bytes after) = patch block.0 at bytes.items (patch_numbers after.items)
command (parsed.Empty after) = empty (patch_numbers after.items)
command parsed.Gate = gate
command (parsed.Depend number on) = depend number.0 (patch_numbers on.items)
command (parsed.Seal number) = seal number.0
command (parsed.Choose block) = choose block.0
command parsed.Pick = pick
command (parsed.Write block) = write block.0
command (parsed.Done ticket fail) = done ticket.0 fail
command (parsed.Retry block) = retry block.0
command (parsed.Evict block) = evict block.0
command (parsed.Show block) = show block.0
command (parsed.Place number) = place number.0
command parsed.Forget = forget
command parsed.Stat = stat
command (parsed.Crash finish) = crash (block_numbers finish.items)
command parsed.GroupNew = group_new
command (parsed.GroupAfter group on) = group_after group.0 on.0
command (parsed.GroupPatch group block at bytes) = group_patch group.0 block.0 at bytes.items
command (parsed.GroupClose group) = group_close group.0

-- memory was refused, or what was asked for is not there
abbrev pub Refuses : {Y : Type 0} → Fault → Option Y → Type 0
Refuses fault.Memory read = Unit {0}
Refuses fault.BadField read = read ≡ None
Refuses _ read = ⊥

abbrev pub Gives : {X Y : Type 0} → (X → Y) → Result X Fault → Option Y → Type 0
Gives view (Ok x) read = read ≡ Some (view x)
Gives view (Err e) read = Refuses e read

-- the line's command, or its own refusal, or want of memory
abbrev pub Parses : Result Parsed Fault → Result Command Fault → Type 0
Parses (Ok c) asked = asked ≡ Ok (command c)
Parses (Err fault.Memory) asked = Unit {0}
Parses (Err e) asked = asked ≡ Err e
