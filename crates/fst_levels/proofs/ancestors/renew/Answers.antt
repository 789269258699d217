use Rattle.std.proofs.lemmas.Grind.{common_steps}
use Rattle.fst_levels.proofs.Renewed.{renewed_is_leveled}
use Rattle.std.proofs.Common.{◌∙◌, length, ap, subst, sym, arith}
use Rattle.fst_heads.specs.Heads.{patches_of}
use Rattle.fst_levels.specs.Leveling.{IsLeveled}
use Rattle.fst_levels.proofs.ancestors.renew.Goals as goal

pub returns-clause-leveled : goal.returns-clause-leveled
returns-clause-leveled c =
    let heads = c.args.heads.now.list.items in
    let old = c.args.levels.now in
    let new = c.put_ancestry.new.self in
    let put = c.put_ancestry.ensures in
    subst (λ n. IsLeveled (patches_of heads) n new) (sym (ap length put.floors))
    (renewed_is_leveled heads c.args.heads.now.rising (length old.floors) old new c.requires.leveled c.args.number c.in-Some.index c.in-Some.ensures.found c.ancestry_over-ancestry.result
    c.as_slice-row.result.now c.index.result.now (c.as_slice-row.ensures ∙ ap (λ h. h.dependencies.items) c.index.ensures) (c.ancestry_over-ancestry.ensures (patches_of heads) (length old.floors) c.requires.leveled c.requires.given) put.numbers put.levels put.overs put.parent put.jump put.rest put.floors)

pub returns-clause-floors : goal.returns-clause-floors
returns-clause-floors c = grind (arith, common_steps)

pub returns-clause-room : goal.returns-clause-room
returns-clause-room c = grind (arith, common_steps)

pub returns-in_default-clause-floors : goal.returns-in_default-clause-floors
returns-in_default-clause-floors c = grind (arith, common_steps)

pub returns-in_default-clause-leveled : goal.returns-in_default-clause-leveled
returns-in_default-clause-leveled c = grind (arith, common_steps)

pub returns-in_default-clause-room : goal.returns-in_default-clause-room
returns-in_default-clause-room c = grind (arith, common_steps)
