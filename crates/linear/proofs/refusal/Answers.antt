use Rattle.std.proofs.lemmas.Result.{err_from_is_err_and}
use mathlib.Core.Path.{sym, ◌∙◌}
use borrow.Author.Tests.{eq-eqb, ne_eqb}
use Rattle.graph.specs.Refusal.{given, ◌or◌}
use Rattle.graph.proofs.Refusals.{table_limits}
use Rattle.graph.proofs.Reasons.{or_err}
use Rattle.linear.specs.Promise.{refusal_on}
use Rattle.linear.proofs.refusal.Goals as goal

pub returns-in_err-check : goal.returns-in_err-check
unfolding refusal_on
returns-in_err-check c = let p = err_from_is_err_and c.from_residual.result c.from_residual.ensures.1 in rw (p.1, p.2) (or_err _ _ _ c.in_err-check.ensures)

pub returns-then-label-table : goal.returns-then-label-table
unfolding refusal_on given ◌or◌
returns-then-label-table c = rw (sym c.in_ok-check.ensures, ne_eqb _ _ c.if-label-table.true)

pub lacking-requires : goal.lacking-requires
lacking-requires c = table_limits _ _ _ _ (sym c.in_ok-check.ensures)

pub returns-then-lacking : goal.returns-then-lacking
unfolding refusal_on given ◌or◌
returns-then-lacking c = rw (sym c.in_ok-check.ensures, eq-eqb _ _ c.if-label-table.false, sym c.lacking.ensures ∙ c.if-lacking.true)

pub returns : goal.returns
unfolding refusal_on given ◌or◌
returns c = rw (sym c.in_ok-check.ensures, eq-eqb _ _ c.if-label-table.false, sym c.lacking.ensures ∙ c.if-lacking.false)
