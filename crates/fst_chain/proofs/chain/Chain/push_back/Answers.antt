use Rattle.std.proofs.Common.{rules}
use Rattle.fst_chain.proofs.chain.Chain.push_back.Goals as goal

pub returns-in-Err-clause-refused : goal.returns-in-Err-clause-refused
returns-in-Err-clause-refused g c = search rules
