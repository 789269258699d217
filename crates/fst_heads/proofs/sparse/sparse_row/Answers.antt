use Rattle.fst_heads.proofs.{Basics.{◌∙◌, sym, IfOk, Result, Ok, Err, arith, rules}, Words.{patches_of, numbers_of}}
use Rattle.fst_heads.proofs.{Newest.{whole_is_sparse, newest_are_sparse}, Runs.numbers_in}
use Rattle.fst_heads.proofs.sparse.sparse_row.Goals as goal

weaker : {X E : Type 0} (P Q : X → Type 0) → ((x : X) → P x → Q x) → (r : Result X E) → IfOk r P → IfOk r Q
weaker P Q f (Ok x) p = f x p
weaker P Q f (Err e) p = p

pub returns-then-span-eq0 : goal.returns-then-span-eq0
returns-then-span-eq0 c = search (rules, weaker, whole_is_sparse)

pub returns : goal.returns
returns c =
    let w = c.args.wanted.now in
    let some = c.if-span-eq0.false in
    newest_are_sparse (patches_of c.args.heads.now.list.items) (numbers_of w.names.now) w.block w.span.at w.span.len c.args.cover.now c.requires.covered (numbers_in c.over.result.now) c.in_ok-row.row.items c.gain_touched.new.row.items
    (omega arith) (sym c.has_untold.ensures ∙ c.if-has_untold.false) c.in_ok-row.ensures c.over.ensures c.in_ok-gain_touched.ensures
