use borrow.Author.Tests.{lt-leb, le-leb}
use Rattle.graph.specs.Checker.{check1}
use Rattle.checker.proofs.checks.labelled.Goals as goal

pub returns-then-l-v : goal.returns-then-l-v
unfolding check1
returns-then-l-v c = rw (le-leb _ _ c.if-l-v.true)

pub returns-else-l-v : goal.returns-else-l-v
unfolding check1
returns-else-l-v c = rw (lt-leb _ _ c.if-l-v.false)
