use Rattle.std.proofs.Common.{◌≡◌, map}
use Rattle.std.specs.Prelude.{string_bytes}
use Rattle.std.specs.List.{range_with_len}
use Rattle.fst_types.specs.Bytes.{bytes_of}
use Rattle.fst_crew.specs.Crewing.{told}
use Rattle.fst_crew.proofs.crews.report.report.Given as goal

-- the lines of the blocks so far, and no change to the state
abbrev pub invariant-loop-block : goal.invariant-loop-block
invariant-loop-block g l =
    (string_bytes l.text ≡ told l.fn.made (map (bytes_of l.fn.cache.state) (range_with_len 0 l.block))) × (l.cache.state ≡ l.fn.cache.state)
