use mathlib.Core.Path.{sym}
use Rattle.std.proofs.lemmas.Result.{err_from_is_err_and}
use Rattle.checker.proofs.Laws.{call_ready, refused_promise, judged_promise}
use Rattle.checker.proofs.check.Goals as goal

pub returns-in_err-refusal : goal.returns-in_err-refusal
returns-in_err-refusal c = let p = err_from_is_err_and c.from_residual.result c.from_residual.ensures.1 in rw (p.1, p.2) (refused_promise _ _ c.in_err-refusal.ensures)

pub judge-requires : goal.judge-requires
judge-requires c = call_ready _ (sym c.in_ok-refusal.ensures)

pub returns : goal.returns
returns c = judged_promise _ _ (sym c.in_ok-refusal.ensures) c.judge.ensures
