use borrow.Author.Tests.{lt-ltb, le-ltb}
use Rattle.graph.specs.Checker.{check2}
use Rattle.checker.proofs.checks.ranked.Goals as goal

pub returns-then-r-n : goal.returns-then-r-n
unfolding check2
returns-then-r-n c = rw (lt-ltb _ _ c.if-r-n.true)

pub returns-else-r-n : goal.returns-else-r-n
unfolding check2
returns-else-r-n c = rw (le-ltb _ _ c.if-r-n.false)
