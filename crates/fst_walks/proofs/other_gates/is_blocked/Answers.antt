use Rattle.fst_walks.proofs.other_gates.is_blocked.Goals as goal

pub returns-else-leads_to_gate-clause-blocked : goal.returns-else-leads_to_gate-clause-blocked
returns-else-leads_to_gate-clause-blocked c = rw c.in-Some.is c.waits_for_another.ensures.waits
