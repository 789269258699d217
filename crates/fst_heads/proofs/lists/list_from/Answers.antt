use Rattle.fst_heads.proofs.Basics.{◌<◌, ◌∙◌, ◌++◌, ◌-◌, length, take, drop, take_all, sym, ap, arith, rules, length-drop, length-take, take-append-drop}
use Rattle.std.proofs.Common.{nat_lt}
use Rattle.std.proofs.lemmas.{Bool.ltb-true, List.get_or-take, List.Sorted.{IsPartitionPoint-from_clause, IsPartitionedBy-ltb}}
use Rattle.fst_heads.proofs.Halves.{not_falling}
use Rattle.fst_heads.proofs.lists.list_from.Goals as goal

pub returns : goal.returns
returns c =
    let list = c.args.list.now in
    let k = c.partition_point-before.result in
    let parted = IsPartitionedBy-ltb (λ l. l.number) list c.args.number (not_falling list c.requires) in
    let point = IsPartitionPoint-from_clause (λ l. nat_lt l.number c.args.number) _ _ c.partition_point-before.ensures.partitioned parted (λ a r q h. search rules) in (
      take k list,
      sym (ap (λ rest. take k list ++ rest) (take_all (length list - k) (drop k list) (omega (arith, length-drop k list))) ∙ take-append-drop k list),
      λ i d lt.
          let within : i < k = omega (arith, lt, length-take k list) in
          omega (arith, ap (λ l. l.number) (get_or-take k list i d within), ltb-true _ _ (point.0 i d (omega arith) within)),
    )
