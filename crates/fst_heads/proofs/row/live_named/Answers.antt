use Rattle.fst_heads.proofs.{Basics.{◌∙◌, sym, false≢true}, Patches.IsLiveNumber, Words.patches_of, Rows.{gathers_more, gathers_skip, gathers_all}}
use Rattle.fst_heads.proofs.row.live_named.Goals as goal
use Rattle.fst_heads.proofs.row.live_named.Goals.{then-is_live_number+in_ok-put, else-is_live_number}

pub loop-name-preserved : goal.loop-name-preserved
loop-name-preserved c =
    let live = IsLiveNumber (patches_of c.args.heads.now.list.items) in
    elim c.if-is_live_number.branch [
      | then-is_live_number+in_ok-put w ↦
          rw w.row-is
          (gathers_more live c.args.names.now c.loop-name.name-index c.loop-name.row.items (record { 0 = 0 }) c.loop-name-test.true c.loop-name.invariant w.put.new.row.items (c.is_live_number.ensures.0 w.if-is_live_number.true) w.in_ok-put.ensures)
      | else-is_live_number w ↦
          rw w.row-is
          (gathers_skip live c.args.names.now c.loop-name.name-index c.loop-name.row.items (record { 0 = 0 }) c.loop-name-test.true c.loop-name.invariant (λ l. false≢true (sym w.if-is_live_number.false ∙ c.is_live_number.ensures.1 l)))
    ]

pub returns : goal.returns
returns c = gathers_all (IsLiveNumber (patches_of c.args.heads.now.list.items)) c.args.names.now c.loop-name.name-index c.loop-name.row.items c.loop-name-test.false c.loop-name.invariant
