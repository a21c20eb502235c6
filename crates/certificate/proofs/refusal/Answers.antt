use mathlib.Core.Path.{sym}
use Rattle.std.proofs.lemmas.Result.{err_from_is_err_and}
use Rattle.graph.specs.Refusal.{given}
use Rattle.graph.proofs.Reasons.{or_err, or_ok}
use Rattle.checker.proofs.Laws.{call_passed}
use Rattle.certificate.specs.Promise.{early_on}
use Rattle.certificate.proofs.refusal.Goals as goal

pub returns-in_err-refusal : goal.returns-in_err-refusal
unfolding early_on
returns-in_err-refusal c = let p = err_from_is_err_and c.from_residual.result c.from_residual.ensures.1 in rw (p.1, p.2) (or_err _ _ _ c.in_err-refusal.ensures)

pub lacking-requires : goal.lacking-requires
lacking-requires c = let p = call_passed _ (sym c.in_ok-refusal.ensures) in record { small = p.small; few = p.few }

pub returns-then-lacking : goal.returns-then-lacking
unfolding early_on given
returns-then-lacking c = or_ok _ _ c.in_ok-refusal.ensures (rw (sym c.if-lacking.ensures))

pub returns : goal.returns
unfolding early_on given
returns c = or_ok _ _ c.in_ok-refusal.ensures (rw (sym c.if-lacking.ensures))
