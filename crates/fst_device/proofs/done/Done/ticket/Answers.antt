use Rattle.std.proofs.Common.{rules}
use Rattle.fst_device.proofs.done.Done.ticket.Goals as goal

pub returns : goal.returns
returns g c = search rules
