use Rattle.std.proofs.Common.{arith}
use Rattle.fst_types.specs.declared.number.PatchNo.{PatchNo}
use Rattle.fst_heads.proofs.Rows.{name_of}
use Rattle.fst_walks.proofs.cycle.is_named.Goals as goal

pub returns : goal.returns
returns c = (
  (λ e. cc),
  λ m.
      let k = name_of c.args.names.now c.args.gate m in
      let d : PatchNo = record { 0 = 0 } in
      absurd (c.loop-name.invariant k.0 d (omega (arith, k.1, c.loop-name-test.false)) (k.2 d)),
)
