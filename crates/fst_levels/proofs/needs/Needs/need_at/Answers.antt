use Rattle.std.proofs.Common.{Contains, get_or, subst}
use Rattle.fst_heads.proofs.Indices.{any_default}
use Rattle.fst_levels.proofs.needs.Needs.need_at.Goals as goal

pub returns-then-at-needs : goal.returns-then-at-needs
returns-then-at-needs c =
    let needs = c.of-needs.result.now in
    let there = c.if-at-needs.true in
    subst (λ ns. Contains ns (get_or needs c.args.at 0)) c.of-needs.ensures (c.args.at, there, any_default needs c.args.at (get_or needs c.args.at 0) 0 there)
