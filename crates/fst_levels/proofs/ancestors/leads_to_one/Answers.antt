use Rattle.std.proofs.Common.{map, get_or, Contains, subst, arith}
use Rattle.std.proofs.lemmas.List.{Elements.Contains-get_or, get_or-map, length-map}
use Rattle.fst_heads.specs.declared.lists.Listed.{Listed}
use Rattle.fst_heads.specs.Heads.{patches_of}
use Rattle.fst_levels.proofs.Ancestral.{leads_on}
use Rattle.fst_levels.proofs.ancestors.leads_to_one.Goals as goal

pub returns-then-comes_to : goal.returns-then-comes_to
returns-then-comes_to c =
    let list = c.args.changes.now in
    let i = c.loop-change.change-index in
    let none : Listed = record { number = 0; span = record { at = 0; len = 0 } } in
    let number = λ (l : Listed). l.number in
    let inside = c.loop-change-test.true in
    let there = subst (Contains (map number list)) (get_or-map number list i none 0 inside) (Contains-get_or (map number list) i 0 (omega (arith, inside, length-map list number))) in
    (there, leads_on (patches_of c.args.sight.now.heads.now.list.items) c.args.number c.in-Some.to (get_or list i none).number (c.comes_to.ensures c.if-comes_to.true) c.in-Some.ensures)
