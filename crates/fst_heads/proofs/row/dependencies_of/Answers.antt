use Rattle.fst_heads.proofs.{Basics.{◌∙◌, ◌+◌, get_or, drop, sym, ap, drop_more, arith, common_steps}, Words.{Listed, patches_of, entry_of, entries_of}}
use Rattle.fst_heads.proofs.Touching.{touches_none, touches_more, touches_skip}
use Rattle.fst_heads.proofs.row.dependencies_of.Goals as goal
use Rattle.fst_heads.proofs.row.dependencies_of.Goals.{then-shares+in_ok-put, else-shares}

pub loop-listed-init : goal.loop-listed-init
loop-listed-init c = touches_none (patches_of c.args.heads.now.list.items) _ c.args.block c.args.span.at c.args.span.len c.in_ok-row.row.items c.requires.listed c.in_ok-row.ensures.rising

pub loop-listed-preserved : goal.loop-listed-preserved
loop-listed-preserved c =
    let heads = patches_of c.args.heads.now.list.items in
    let list = c.args.list.now in
    let i = c.loop-listed.listed-index in
    let none : Listed = record { number = 0; span = record { at = 0; len = 0 } } in
    let e = entry_of (get_or list i none) in
    let rest = entries_of (drop i list) in
    let left = entries_of (drop (i + 1) list) in
    let next = ap entries_of (drop_more list i none c.loop-listed-test.true) in
    let b = c.args.block in
    let at = c.args.span.at in
    let len = c.args.span.len in
    elim c.if-shares.branch [
      | then-shares+in_ok-put w ↦
          rw w.row-is
          (touches_more heads rest b at len c.in_ok-row.row.items c.loop-listed.row.items e left next c.loop-listed.invariant w.put.new.row.items (sym c.shares.ensures ∙ w.if-shares.true) w.in_ok-put.ensures)
      | else-shares w ↦
          rw w.row-is
          (touches_skip heads rest b at len c.in_ok-row.row.items c.loop-listed.row.items e left next c.loop-listed.invariant (sym c.shares.ensures ∙ w.if-shares.false))
    ]

pub returns : goal.returns
returns c = grind (arith, common_steps)

pub returns-in_err-put : goal.returns-in_err-put
returns-in_err-put c = grind (arith, common_steps)

pub returns-in_err-row : goal.returns-in_err-row
returns-in_err-row c = grind (arith, common_steps)
