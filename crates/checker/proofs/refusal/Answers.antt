use Rattle.std.proofs.lemmas.Result.{err_from_is_err_and}
use Rattle.graph.proofs.Reasons.{or_err, or_ok}
use Rattle.checker.specs.Promise.{refusal_on}
use Rattle.checker.proofs.refusal.Goals as goal

pub returns-in_err-check : goal.returns-in_err-check
unfolding refusal_on
returns-in_err-check c = let p = err_from_is_err_and c.from_residual.result c.from_residual.ensures.1 in rw (p.1, p.2) (or_err _ _ _ c.in_err-check.ensures)

pub returns : goal.returns
unfolding refusal_on
returns c = or_ok _ _ c.in_ok-check.ensures c.check-2.ensures
