use Rattle.std.proofs.Common.{rules}
use Rattle.fst_device.proofs.fault_count.FaultCount.new.Goals as goal

pub returns : goal.returns
returns c = search rules
