use Rattle.std.proofs.Common.{refl, inl, inr}
use Rattle.sweep.proofs.set.enter.Goals as goal

pub returns-then-w-at : goal.returns-then-w-at
returns-then-w-at c = inr (rw c.order.ensures at c.if-w-at.true, refl, refl)

pub returns : goal.returns
returns c = inl (rw c.order.ensures at c.if-w-at.false, rw c.order.ensures at c.add.ensures, refl)
