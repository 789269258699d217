use Rattle.std.proofs.Common.{arith}
use Rattle.std.proofs.lemmas.Result.{err_from_is_err_and}
use Rattle.journal_calls.proofs.Pairs.{tail_has_number, made_group, put_after, fails_first, fails_second, fails_last}
use Rattle.journal_calls.proofs.pair.two_groups.Goals as goal

pub overflow_add-tail : goal.overflow_add-tail
overflow_add-tail g c = omega (arith, tail_has_number _ _ _ _ c.in-Ok.ensures.step)

pub returns-clause-pair : goal.returns-clause-pair
returns-clause-pair g c = put_after _ _ _ _ (made_group _ _ _ _ c.in-Ok.ensures.step) c.in_default.ensures.step

pub returns-in_err-first-clause-refused : goal.returns-in_err-first-clause-refused
returns-in_err-first-clause-refused g c =
    let p = err_from_is_err_and c.from_residual.result c.from_residual.ensures.1 in
    rw (p.1, p.2) (fails_first _ _ _ _ _ c.in_err-first.ensures.share c.in_err-first.ensures.step)

pub returns-in-Err-clause-refused : goal.returns-in-Err-clause-refused
returns-in-Err-clause-refused g c = fails_second _ _ _ _ _ _ _ _ _ c.group_close.result c.in_ok-first.ensures.share c.in-Err.ensures.share c.in_ok-first.ensures.step c.in-Err.ensures.step c.group_close.ensures.step

pub returns-in-Err-group_after-clause-refused : goal.returns-in-Err-group_after-clause-refused
returns-in-Err-group_after-clause-refused g c =
    fails_last _ _ _ _ _ _ _ _ _ _ _ _ c.group_close-in-Err-group_after.result c.group_close-in-Err-group_after-2.result c.in_ok-first.ensures.share c.in-Ok.ensures.share c.in_ok-first.ensures.step c.in-Ok.ensures.step
    c.in-Err-group_after.ensures.step c.group_close-in-Err-group_after.ensures.step c.group_close-in-Err-group_after-2.ensures.step
