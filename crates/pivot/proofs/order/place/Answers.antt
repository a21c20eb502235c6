use Rattle.pivot.specs.Placing.{outside, again, placed}
use Rattle.pivot.proofs.order.place.Goals as goal

pub returns-then-at-v : goal.returns-then-at-v
returns-then-at-v c = outside c.if-at-v.true

pub returns-then-w-at-ne0 : goal.returns-then-w-at-ne0
returns-then-w-at-ne0 c = again c.if-at-v.false c.if-w-at-ne0.true

pub returns : goal.returns
returns c = rw c.order.ensures (placed c.if-at-v.false c.if-w-at-ne0.false)
