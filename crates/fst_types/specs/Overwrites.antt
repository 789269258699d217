-- Writes, as the code has them.
use Rattle.fst_types.specs.declared.fold.Write.{Write as WriteCode}
use Rattle.fst_types.specs.Fold.{Write}

-- the write that a value of the code stands for
abbrev pub write_seen : WriteCode → Write
write_seen w = record { at = w.at; bytes = w.bytes.now }
