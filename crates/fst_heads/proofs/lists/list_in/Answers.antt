use Rattle.fst_heads.proofs.Basics.{◌<◌, ◌∙◌, ◌++◌, ◌+◌, length, drop, sym, subst, ap, arith, rules, length-drop, take-append-drop, AllPairs}
use Rattle.std.proofs.lemmas.{Bool.leb-false, List.get_or-drop, List.Sorted.{IsPartitionPoint-from_clause, IsPartitionedBy-leb}}
use Rattle.std.proofs.Math.Dec.{leb}
use Rattle.fst_heads.proofs.Halves.{not_falling, rising_behind}
use Rattle.fst_heads.proofs.lists.list_in.Goals as goal

pub returns : goal.returns
returns c =
    let list = c.args.list.now in
    let rest = c.list_from-rest.result.now in
    let parts = c.list_from-rest.ensures in
    let to = c.args.stretch.to in
    let k = c.partition_point-inside.result in
    let rising = rising_behind parts.0 rest (subst (AllPairs (λ x y. x.number < y.number)) parts.1 c.requires) in
    let parted = IsPartitionedBy-leb (λ l. l.number) rest to (not_falling rest rising) in
    let point = IsPartitionPoint-from_clause (λ l. leb l.number to) _ _ c.partition_point-inside.ensures.partitioned parted (λ a r q h. search rules) in (
      parts.0,
      drop k rest,
      parts.1 ∙ ap (λ ls. parts.0 ++ ls) (sym (take-append-drop k rest)),
      parts.2,
      λ i d lt.
          let within : k + i < length rest = omega (arith, lt, length-drop k rest) in
          omega (arith, ap (λ l. l.number) (get_or-drop k rest i d), leb-false _ _ (point.1 (k + i) d (omega arith) within)),
    )
