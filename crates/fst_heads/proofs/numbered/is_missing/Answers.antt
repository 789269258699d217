use Rattle.std.proofs.lemmas.Bool.{ltb-true}
use Rattle.fst_heads.proofs.{Basics.{arith}, Indices.none_between}
use Rattle.fst_heads.proofs.numbered.is_missing.Goals.{else-place-gt0-via-then-place-gt0+else-number, else-place-gt0-via-else-place-gt0}
use Rattle.fst_heads.proofs.numbered.is_missing.Goals as goal

pub returns-then-place-list : goal.returns-then-place-list
returns-then-place-list g c told =
    none_between g.T.Numbered.numbered c.args.list.now c.requires c.args.number c.args.place c.if-list-place.false (λ some. elim c.else-place-gt0.branch [
      | else-place-gt0-via-then-place-gt0+else-number w ↦ (w.index-list-place.result, w.index-list-place.is, omega (arith, w.number.ensures, w.if-number.false))
      | else-place-gt0-via-else-place-gt0 w ↦ absurd (omega (arith, some, w.if-place-gt0.false))
    ]) (λ more. absurd (omega (arith, more, c.if-place-list.true)))

pub returns-else-place-list : goal.returns-else-place-list
returns-else-place-list g c told =
    none_between g.T.Numbered.numbered c.args.list.now c.requires c.args.number c.args.place c.if-list-place.false (λ some. elim c.else-place-gt0.branch [
      | else-place-gt0-via-then-place-gt0+else-number w ↦ (w.index-list-place.result, w.index-list-place.is, omega (arith, w.number.ensures, w.if-number.false))
      | else-place-gt0-via-else-place-gt0 w ↦ absurd (omega (arith, some, w.if-place-gt0.false))
    ]) (λ more. (c.index-list-place-else-place-list.result, c.index-list-place-else-place-list.is, omega (arith, ltb-true _ _ told, c.number-else-place-list.ensures)))
