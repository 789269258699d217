use Rattle.fst_heads.proofs.{Basics.{◌≡◌, ◌∙◌, get_or, get_or-map, length-map, sym, subst, false≢true, arith}, Words.{Run, patches_of, IsTouched, Gains}, Newest.{gains_same, gains_more, gains_skip, gains_all}, Runs.numbers_in}
use Rattle.fst_heads.proofs.sparse.gain_touched.Goals as goal
use Rattle.fst_heads.proofs.sparse.gain_touched.Goals.{then-run-last+then-is_touched+in_ok-put, then-run-last+else-is_touched, else-run-last}

pub loop-run-preserved : goal.loop-run-preserved
loop-run-preserved c =
    let heads = patches_of c.args.heads.now.list.items in
    let ns = numbers_in c.args.runs.now in
    let b = c.args.block in
    let at = c.args.span.at in
    let len = c.args.span.len in
    let old = c.args.row.now.items in
    let i = c.loop-run.run-index in
    let last = c.loop-run.last in
    let row = c.loop-run.row.items in
    let x = c.loop-run.invariant in
    let here : get_or ns i 0 ≡ (get_or c.args.runs.now i (record { from = 0; number = 0 })).number = get_or-map (λ (r : Run). r.number) c.args.runs.now i (record { from = 0; number = 0 }) 0 c.loop-run-test.true in
    elim c.if-run-last.branch [
      | then-run-last+then-is_touched+in_ok-put w ↦
          rw (w.row-is, w.last-is, ← here) (gains_more heads ns b at len i last old row x w.put.new.row.items
          (subst (IsTouched heads b at len) (sym here) (w.is_touched.ensures.0 w.if-is_touched.true)) (subst (λ n. Gains row n w.put.new.row.items) (sym here) w.in_ok-put.ensures))
      | then-run-last+else-is_touched w ↦
          rw (w.row-is, w.last-is, ← here) (gains_skip heads ns b at len i last old row x (λ t. false≢true (sym w.if-is_touched.false ∙ w.is_touched.ensures.1 (subst (IsTouched heads b at len) here t))))
      | else-run-last w ↦ rw (w.row-is, w.last-is) (gains_same heads ns b at len i last old row x (here ∙ w.if-run-last.false))
    ]

pub returns : goal.returns
returns c =
    let long = length-map c.args.runs.now (λ (r : Run). r.number) in
    gains_all (patches_of c.args.heads.now.list.items) (numbers_in c.args.runs.now) c.args.block c.args.span.at c.args.span.len c.loop-run.run-index c.loop-run.last c.args.row.now.items c.loop-run.row.items c.loop-run.invariant (omega (arith, long, c.loop-run-test.false))
