use Rattle.std.proofs.Common.{◌∙◌, ◌-◌, length, get_or, Contains, take, drop, subst, sym, ap}
use Rattle.std.proofs.lemmas.List.{Elements.Contains-append_right, map-append, take-append-drop, take_rest}
use Rattle.fst_types.specs.declared.number.PatchNo.{PatchNo}
use Rattle.fst_heads.specs.Names.{numbers_of}
use Rattle.fst_heads.proofs.Rows.{name_in}
use Rattle.fst_levels.proofs.ancestors.names_lead_to.Goals as goal

pub returns-then-comes_to : goal.returns-then-comes_to
returns-then-comes_to c _ =
    let names = c.args.names.now in
    let from = c.saturating_sub.result in
    let few = take (length names - from) (drop from names) in
    let none : PatchNo = record { 0 = 0 } in
    let number = λ (m : PatchNo). m.0 in
    let n = (get_or few c.loop-name.name-index none).0 in
    let o = c.requires.is_open in
    let there = subst (λ ms. Contains (numbers_of ms) n) (take_rest names from) (name_in few c.loop-name.name-index none c.loop-name-test.true) in
    let all = subst (λ ns. Contains ns n) (sym (map-append number (take from names) (drop from names)) ∙ ap numbers_of (take-append-drop from names)) (Contains-append_right (numbers_of (take from names)) (numbers_of (drop from names)) n there) in
    (n, all, c.comes_to.ensures c.if-comes_to.true o.patch o.head o.numbered)
