use mathlib.Core.Path.{sym, ◌∙◌}
use borrow.Author.Tests.{le-leb, lt-leb}
use Rattle.std.proofs.lemmas.Result.{err_from_is_err_and}
use Rattle.graph.specs.Refusal.{given, ◌or◌}
use Rattle.graph.proofs.Refusals.{table_limits}
use Rattle.graph.proofs.Reasons.{or_err}
use Rattle.paths.specs.Promise.{ask_on}
use Rattle.paths.proofs.refusal.Goals as goal
use Rattle.paths.proofs.refusal.Goals.{then-table-u-via-then-table-u, then-table-u-via-else-table-u+then-table-v}

pub returns-in_err-check : goal.returns-in_err-check
unfolding ask_on
returns-in_err-check c = let p = err_from_is_err_and c.from_residual.result c.from_residual.ensures.1 in rw (p.1, p.2) (or_err _ _ _ c.in_err-check.ensures)

pub lacking-requires : goal.lacking-requires
lacking-requires c = table_limits _ _ _ _ (sym c.in_ok-check.ensures)

pub returns-then-lacking : goal.returns-then-lacking
unfolding ask_on given ◌or◌
returns-then-lacking c = rw (sym c.in_ok-check.ensures, sym c.lacking.ensures ∙ c.if-lacking.true)

pub returns-then-table-u : goal.returns-then-table-u
unfolding ask_on given ◌or◌
returns-then-table-u c =
    elim c.then-table-u.branch [
      | then-table-u-via-then-table-u w ↦ rw (sym c.in_ok-check.ensures, sym c.lacking.ensures ∙ c.if-lacking.false, le-leb _ _ w.if-table-u.true)
      | then-table-u-via-else-table-u+then-table-v w ↦ rw (sym c.in_ok-check.ensures, sym c.lacking.ensures ∙ c.if-lacking.false, lt-leb _ _ w.if-table-u.false, le-leb _ _ w.if-table-v.true)
    ]

pub returns : goal.returns
unfolding ask_on given ◌or◌
returns c = rw (sym c.in_ok-check.ensures, sym c.lacking.ensures ∙ c.if-lacking.false, lt-leb _ _ c.if-table-u.false, lt-leb _ _ c.if-table-v.false)
