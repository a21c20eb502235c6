use borrow.Author.Tests.{lt-ltb, le-ltb, eq-eqb, ne_eqb}
use Rattle.machine.specs.Aim.{aim}
use Rattle.machine.proofs.Machine.aim.Goals as goal

pub returns-then-self-n : goal.returns-then-self-n
unfolding aim
returns-then-self-n c = rw (lt-ltb _ _ c.if-self-n.true)

pub returns-then-self : goal.returns-then-self
unfolding aim
returns-then-self c = rw (le-ltb _ _ c.if-self-n.false, lt-ltb _ _ c.if-self.true, c.wrap.ensures)

pub returns-then-self-eq0 : goal.returns-then-self-eq0
unfolding aim
returns-then-self-eq0 c = rw (le-ltb _ _ c.if-self-n.false, le-ltb _ _ c.if-self.false, eq-eqb _ _ c.if-self-eq0.true)

pub returns-in-Newest : goal.returns-in-Newest
unfolding aim
returns-in-Newest c = rw (le-ltb _ _ c.if-self-n.false, le-ltb _ _ c.if-self.false, ne_eqb _ _ c.if-self-eq0.false, c.in-Newest.is, c.wrap-in-Newest.ensures)

pub returns-in-Oldest : goal.returns-in-Oldest
unfolding aim
returns-in-Oldest c = rw (le-ltb _ _ c.if-self-n.false, le-ltb _ _ c.if-self.false, ne_eqb _ _ c.if-self-eq0.false, c.in-Oldest.is)
