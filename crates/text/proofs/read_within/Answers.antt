use Rattle.std.proofs.lemmas.Result.{err_from_is_err_and}
use Rattle.text.proofs.Reading.{within_refused, within_ask, within_done}
use Rattle.text.proofs.read_within.Goals as goal

pub returns-in_err-head : goal.returns-in_err-head
returns-in_err-head c =
    let p = err_from_is_err_and c.from_residual.result c.from_residual.ensures.1 in
    rw (p.1, p.2) (within_refused _ _ _ _ _ _ c.min.ensures _ c.judge.ensures _ c.in_err-head.was)

pub fill-requires : goal.fill-requires
fill-requires c = within_ask _ _ _ _ _ _ c.min.ensures _ c.judge.ensures _ c.in_ok-head.was

pub returns : goal.returns
returns c = within_done _ _ _ _ _ _ c.min.ensures _ c.judge.ensures _ c.in_ok-head.was _ _ c.fill.ensures
