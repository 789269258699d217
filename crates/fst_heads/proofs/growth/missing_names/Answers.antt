use Rattle.fst_heads.proofs.{Basics.{◌∙◌, sym, false≢true}, Words.{patches_of, numbers_of, IsMissing}}
use Rattle.fst_heads.proofs.Rows.{gathers_more, gathers_skip, gathers_all, missing_list}
use Rattle.fst_heads.proofs.growth.missing_names.Goals as goal
use Rattle.fst_heads.proofs.growth.missing_names.Goals.{then-is_missing+in_ok-put, else-is_missing}

pub loop-name-preserved : goal.loop-name-preserved
loop-name-preserved c =
    let missing = IsMissing (patches_of c.args.heads.now.list.items) c.args.gate in
    elim c.if-is_missing.branch [
      | then-is_missing+in_ok-put w ↦
          rw w.row-is
          (gathers_more missing c.args.names.now c.loop-name.name-index c.loop-name.row.items (record { 0 = 0 }) c.loop-name-test.true c.loop-name.invariant w.put.new.row.items (c.is_missing.ensures.0 w.if-is_missing.true) w.in_ok-put.ensures)
      | else-is_missing w ↦
          rw w.row-is
          (gathers_skip missing c.args.names.now c.loop-name.name-index c.loop-name.row.items (record { 0 = 0 }) c.loop-name-test.true c.loop-name.invariant (λ l. false≢true (sym w.if-is_missing.false ∙ c.is_missing.ensures.1 l)))
    ]

pub returns : goal.returns
returns c =
    missing_list (patches_of c.args.heads.now.list.items) c.args.gate (numbers_of c.args.names.now) c.loop-name.row.items
    (gathers_all (IsMissing (patches_of c.args.heads.now.list.items) c.args.gate) c.args.names.now c.loop-name.name-index c.loop-name.row.items c.loop-name-test.false c.loop-name.invariant)
