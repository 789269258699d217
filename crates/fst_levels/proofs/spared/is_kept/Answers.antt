use Rattle.std.proofs.Common.{◌-◌, Contains, length, arith, subst}
use Rattle.std.proofs.lemmas.List.Elements.{Contains-get_or}
use Rattle.fst_levels.proofs.spared.is_kept.Goals as goal

pub returns-then-needs-at : goal.returns-then-needs-at
returns-then-needs-at c yes_it =
    let needs = c.args.needs.now in
    let at = length needs - 1 - c.loop-back.back in
    subst (Contains needs) c.if-needs-at.true (Contains-get_or needs at 0 (omega (arith, c.loop-back-test.true, c.min-back-end.ensures)))
