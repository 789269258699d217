use Rattle.fst_heads.proofs.{Basics.{subst, refl, Err, IsBinarySearchResult, nat_cmp}, Rows.gains_new}
use Rattle.fst_heads.proofs.row.put.Goals as goal

pub returns-in_ok-insert-in-Err : goal.returns-in_ok-insert-in-Err
returns-in_ok-insert-in-Err c =
    rw c.in_ok-insert-in-Err.ensures.ok
    (gains_new c.args.row.now.items c.requires c.args.number c.in-Err.at (Err c.in-Err.at) refl
    (subst (λ xs. IsBinarySearchResult (λ y. nat_cmp y c.args.number) xs (Err c.in-Err.at)) c.as_slice.ensures c.in-Err.ensures.position))
