-- It owns nothing, so any thread may have it.
use denote.Param.Send.{IsSend, owning_send, sendable}
use Rattle.fst_graph.specs.contracts.rows.Rows.{the_row, the_type}

pub send : IsSend the_row
send = owning_send the_type (search sendable, tt) (λ d. tt) (λ k x w. tt)
