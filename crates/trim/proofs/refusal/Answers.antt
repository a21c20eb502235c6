use mathlib.Core.Path.{sym, ◌∙◌}
use Rattle.std.proofs.lemmas.Result.{err_from_is_err_and}
use Rattle.graph.specs.Refusal.{given, ◌or◌}
use Rattle.graph.proofs.Reasons.{or_err}
use Rattle.graph.proofs.Refusals.{table_limits}
use Rattle.trim.specs.Promise.{refusal_on}
use Rattle.trim.proofs.refusal.Goals as goal
use Rattle.trim.proofs.refusal.Goals.{then-ill_sized-via-then-ill_sized, then-ill_sized-via-else-ill_sized+then-ill_sized-2}

pub returns-in_err-check : goal.returns-in_err-check
unfolding refusal_on
returns-in_err-check c = let p = err_from_is_err_and c.from_residual.result c.from_residual.ensures.1 in rw (p.1, p.2) (or_err _ _ _ c.in_err-check.ensures)

pub returns-then-ill_sized : goal.returns-then-ill_sized
unfolding refusal_on given ◌or◌
returns-then-ill_sized c =
    elim c.then-ill_sized.branch [
      | then-ill_sized-via-then-ill_sized w ↦ rw (sym c.in_ok-check.ensures, sym c.ill_sized.ensures ∙ w.if-ill_sized.true)
      | then-ill_sized-via-else-ill_sized+then-ill_sized-2 w ↦ rw (sym c.in_ok-check.ensures, sym c.ill_sized.ensures ∙ w.if-ill_sized.false, sym w.ill_sized-else-ill_sized.ensures ∙ w.if-ill_sized-2.true)
    ]

pub lacking-requires : goal.lacking-requires
lacking-requires c = table_limits _ _ _ _ (sym c.in_ok-check.ensures)

pub returns-then-lacking : goal.returns-then-lacking
unfolding refusal_on given ◌or◌
returns-then-lacking c = rw (sym c.in_ok-check.ensures, sym c.ill_sized.ensures ∙ c.if-ill_sized.false, sym c.ill_sized-else-ill_sized.ensures ∙ c.if-ill_sized-2.false, sym c.lacking.ensures ∙ c.if-lacking.true)

pub returns : goal.returns
unfolding refusal_on given ◌or◌
returns c = rw (sym c.in_ok-check.ensures, sym c.ill_sized.ensures ∙ c.if-ill_sized.false, sym c.ill_sized-else-ill_sized.ensures ∙ c.if-ill_sized-2.false, sym c.lacking.ensures ∙ c.if-lacking.false)
