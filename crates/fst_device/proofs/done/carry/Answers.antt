use Rattle.std.proofs.Common.{rules}
use Rattle.fst_device.proofs.done.carry.Goals as goal

pub returns-clause-written : goal.returns-clause-written
returns-clause-written g c = search rules

pub returns-clause-no_fault : goal.returns-clause-no_fault
returns-clause-no_fault g c = search rules

pub returns-clause-fault : goal.returns-clause-fault
returns-clause-fault g c = search rules

pub returns-clause-one_write : goal.returns-clause-one_write
returns-clause-one_write g c = search rules

pub new-requires : goal.new-requires
new-requires g c = search rules
