use borrow.Author.Tests.{lt-ltb, le-ltb}
use Rattle.machine.specs.Aim.{wrapped}
use Rattle.machine.proofs.wrap.Goals as goal

pub returns-then-x-n : goal.returns-then-x-n
unfolding wrapped
returns-then-x-n c = rw (lt-ltb _ _ c.if-x-n.true)

pub returns : goal.returns
unfolding wrapped
returns c = rw (le-ltb _ _ c.if-x-n.false)
