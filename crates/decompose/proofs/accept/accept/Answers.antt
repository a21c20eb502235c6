use Rattle.std.proofs.Common.{sym, lt-ltb, le-ltb, eq-eqb, ne_eqb}
use Rattle.std.proofs.lemmas.Result.{err_from_is_err_and}
use Rattle.graph.specs.Refusal.{given, ◌or◌}
use Rattle.graph.proofs.Reasons.{or_err, or_ok}
use Rattle.graph.proofs.Refusals.{table_limits}
use Rattle.decompose.specs.Accept.{lent_refusal}
use Rattle.decompose.proofs.accept.accept.Goals as goal

pub returns-in_err-check : goal.returns-in_err-check
unfolding lent_refusal
returns-in_err-check c = let p = err_from_is_err_and c.from_residual.result c.from_residual.ensures.1 in rw (p.1, p.2) (or_err _ _ _ c.in_err-check.ensures)

pub returns-then-label-table : goal.returns-then-label-table
unfolding lent_refusal given ◌or◌
returns-then-label-table c = or_ok _ _ (c.in_ok-check.ensures) (rw (ne_eqb _ _ c.if-label-table.true))

pub lacking-requires : goal.lacking-requires
lacking-requires c = table_limits _ _ _ _ (sym (c.in_ok-check.ensures))

pub returns-then-lacking : goal.returns-then-lacking
unfolding lent_refusal given ◌or◌
returns-then-lacking c = or_ok _ _ (c.in_ok-check.ensures) (rw (eq-eqb _ _ c.if-label-table.false, sym (c.if-lacking.ensures)))

pub returns-then-waiting-table : goal.returns-then-waiting-table
unfolding lent_refusal given ◌or◌
returns-then-waiting-table c = or_ok _ _ (c.in_ok-check.ensures) (rw (eq-eqb _ _ c.if-label-table.false, sym (c.if-lacking.ensures), lt-ltb _ _ c.if-waiting-table.true))

pub returns : goal.returns
unfolding lent_refusal given ◌or◌
returns c = or_ok _ _ (c.in_ok-check.ensures) (rw (eq-eqb _ _ c.if-label-table.false, sym (c.if-lacking.ensures), le-ltb _ _ c.if-waiting-table.false))
