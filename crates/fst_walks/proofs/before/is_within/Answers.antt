use Rattle.std.proofs.Common.{◌≡◌, ◌∙◌, arith, get_or, subst, inl, inr}
use Rattle.std.proofs.lemmas.Bool.{cases_lt}
use Rattle.fst_heads.specs.Heads.{patches_of}
use Rattle.fst_heads.proofs.Indices.{any_default}
use Rattle.fst_walks.specs.Telling.{IsWithin}
use Rattle.fst_walks.proofs.before.is_within.Goals as goal

pub returns : goal.returns
returns c told n k =
    let row = c.args.row.now in
    let here : get_or row k.0 0 ≡ n = any_default row k.0 0 n k.1 ∙ k.2 in
    subst (IsWithin (patches_of c.args.sight.now.heads.now.list.items) c.args.block c.args.other.now) here (c.loop-number.invariant k.0 (omega (arith, k.1, c.loop-number-test.false)))

pub loop-number-preserved : goal.loop-number-preserved
loop-number-preserved c j lt =
    let i = c.loop-number.number-index in
    elim (cases_lt j i) [
      | inl before ↦ c.loop-number.invariant j before
      | inr past ↦
          let here : i ≡ j = omega (arith, lt, past) in
          subst (λ k. IsWithin (patches_of c.args.sight.now.heads.now.list.items) c.args.block c.args.other.now (get_or c.args.row.now k 0)) here (c.stands_for.ensures c.if-not-stands_for.false)
    ]
