use Rattle.std.specs.Prelude.{Bool, true, false}
use Rattle.fst_device.specs.declared.outcome.Outcome.{Outcome}
use Rattle.fst_device.specs.declared.outcome.Outcome.TheVariants.{Written, Failed}

-- whether the write worked
abbrev pub is_written : Outcome → Bool
is_written Written = true
is_written Failed = false
