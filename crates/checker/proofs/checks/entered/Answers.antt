use borrow.Author.Tests.{eq-eqb, ne_eqb}
use Rattle.graph.specs.Checker.{check3}
use Rattle.checker.proofs.checks.entered.Goals as goal

pub returns-then-label-v : goal.returns-then-label-v
unfolding check3
returns-then-label-v c = rw (ne_eqb _ _ c.if-label-v.true) c.entry.ensures

pub returns-then-edge-v : goal.returns-then-edge-v
unfolding check3
returns-then-edge-v c = search (eq-eqb, ne_eqb)

pub returns-else-edge-v : goal.returns-else-edge-v
unfolding check3
returns-else-edge-v c = search (eq-eqb, ne_eqb)
