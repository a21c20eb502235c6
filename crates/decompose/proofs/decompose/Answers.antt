use Rattle.std.proofs.lemmas.Result.{err_from_is_err_and}
use Rattle.decompose.proofs.Accepting.{lent_passed, lent_limits, lent_ask}
use Rattle.decompose.proofs.Promising.{lent_met, chosen_met, call_drive, call_finish, call_met}
use Rattle.decompose.proofs.decompose.Goals as goal

pub returns-in_err-accept : goal.returns-in_err-accept
returns-in_err-accept c = let p = err_from_is_err_and c.from_residual.result c.from_residual.ensures.1 in rw (p.1, p.2) (lent_met _ c.in_err-accept.ensures)

pub returns-in_err-choice : goal.returns-in_err-choice
returns-in_err-choice c =
    let p = err_from_is_err_and c.from_residual-in_err-choice.result c.from_residual-in_err-choice.ensures.1 in
    rw (p.1, p.2) (chosen_met _ c.in_ok-accept.ensures c.in_err-choice.ensures)

pub layout-at-requires : goal.layout-at-requires
layout-at-requires c = lent_limits (lent_passed c.in_ok-accept.ensures)

pub begin-begun-requires : goal.begin-begun-requires
begin-begun-requires c = lent_ask _ (lent_passed c.in_ok-accept.ensures)

pub drive-ended-requires : goal.drive-ended-requires
drive-ended-requires c = call_drive _ c.in_ok-accept.ensures c.in_ok-choice.ensures c.layout-at.ensures c.begin-begun.ensures

pub finish-requires : goal.finish-requires
finish-requires c = call_finish _ c.in_ok-accept.ensures c.in_ok-choice.ensures c.layout-at.ensures c.begin-begun.ensures c.drive-ended.ensures

pub returns : goal.returns
returns c = rw c.finish.ensures.draws (call_met _ c.in_ok-accept.ensures c.in_ok-choice.ensures c.layout-at.ensures c.begin-begun.ensures c.drive-ended.ensures c.finish.ensures.memory)
