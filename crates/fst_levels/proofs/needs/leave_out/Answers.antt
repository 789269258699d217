use Rattle.std.proofs.Common.{rules}
use Rattle.fst_heads.specs.Heads.{patches_of}
use Rattle.fst_levels.specs.Needing.{StaysOn}
use Rattle.fst_levels.proofs.LeftOut.{left_from_test}
use Rattle.fst_levels.proofs.needs.leave_out.Goals as goal

pub returns-clause-left : goal.returns-clause-left
returns-clause-left c =
    let l = left_from_test _ (StaysOn (patches_of c.args.heads.now.list.items) c.args.block) _ (λ n b g called. ((λ no. search rules), search rules)) _ _ c.retain.ensures.filtered in
    record { only = l.0; kept = l.1 }
