use Rattle.std.proofs.lemmas.Result.{err_from_is_err_and}
use Rattle.text.proofs.Reading.{judge_refused, judge_wrong, judge_right}
use Rattle.text.proofs.judge.Goals as goal

pub returns-in_err-head : goal.returns-in_err-head
returns-in_err-head c =
    let p = err_from_is_err_and c.from_residual.result c.from_residual.ensures.1 in
    rw (p.1, p.2) (judge_refused _ _ _ c.head_of.ensures _ c.in_err-head.was)

pub returns-in_err-check : goal.returns-in_err-check
returns-in_err-check c =
    let p = err_from_is_err_and c.from_residual-in_err-check.result c.from_residual-in_err-check.ensures.1 in
    rw (p.1, p.2) (judge_wrong _ _ _ c.head_of.ensures _ c.in_ok-head.was _ c.check.ensures _ c.in_err-check.was)

pub returns : goal.returns
returns c = judge_right _ _ _ c.head_of.ensures _ c.in_ok-head.was _ c.check.ensures c.in_ok-check.was
