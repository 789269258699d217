use Rattle.std.proofs.Common.{rules}
use Rattle.fst_device.proofs.fault_count.FaultCount.rise.Goals as goal

pub returns : goal.returns
returns c = search rules
