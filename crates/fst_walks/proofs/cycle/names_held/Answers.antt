use Rattle.std.proofs.lemmas.Grind.{common_steps}
use Rattle.std.proofs.Common.{◌≡◌, sym, subst, arith}
use Rattle.fst_types.specs.declared.number.PatchNo.{PatchNo}
use Rattle.fst_heads.specs.declared.pending.Pending.TheVariants as pending
use Rattle.fst_heads.specs.Nodes.{nodes_of, pending_in}
use Rattle.fst_heads.proofs.Rows.{name_of}
use Rattle.fst_walks.proofs.cycle.names_held.Goals as goal

pub returns : goal.returns
returns c = (
  (λ e. cc),
  λ m.
      let k = name_of c.args.names.now m.0 m.1 in
      let d : PatchNo = record { 0 = 0 } in
      absurd (c.loop-name.invariant k.0 d (omega (arith, k.1, c.loop-name-test.false)) (subst (λ n. pending_in (nodes_of c.args.sight.now.heads.now.list.items) n ≡ pending.Held) (sym (k.2 d)) m.2)),
)

pub loop-name-init : goal.loop-name-init
loop-name-init c = grind (arith, common_steps)

pub loop-name-preserved : goal.loop-name-preserved
loop-name-preserved c = grind (arith, common_steps)

pub returns-then-is_pending : goal.returns-then-is_pending
returns-then-is_pending c = grind (arith, common_steps)
