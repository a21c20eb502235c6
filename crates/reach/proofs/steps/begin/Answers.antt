use mathlib.Core.Path.{sym, ◌∙◌}
use borrow.Author.Tests.{eqb-true, eqb-false}
use Rattle.reach.proofs.Starts.{visit_ask, begun_more, begun_pass}
use Rattle.reach.proofs.steps.begin.Goals as goal
use Rattle.reach.proofs.steps.begin.Goals.{then-has, else-has}

pub visit-k-requires : goal.visit-k-requires
visit-k-requires c = visit_ask c.requires c.loop-x-test.true c.loop-x.invariant

pub loop-x-preserved : goal.loop-x-preserved
loop-x-preserved c =
    elim c.if-has.branch [
      | then-has w ↦ rw (w.w-is, w.k-is) (begun_more c.requires c.loop-x-test.true c.loop-x.invariant (eqb-true _ _ (sym c.has.ensures ∙ w.if-has.true)) w.visit-k.ensures)
      | else-has w ↦ rw (w.w-is, w.k-is) (begun_pass c.requires c.loop-x-test.true c.loop-x.invariant (eqb-false _ _ (sym c.has.ensures ∙ w.if-has.false)))
    ]
