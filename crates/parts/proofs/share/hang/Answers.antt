use Rattle.std.proofs.Common.{refl, inl, inr}
use Rattle.parts.proofs.share.hang.Goals as goal

pub returns-then-c-at : goal.returns-then-c-at
returns-then-c-at c = inl (rw c.order.ensures at c.if-c-at.true, refl, refl)

pub link-requires : goal.link-requires
link-requires c = rw c.order.ensures (c.requires.link (rw c.order.ensures at c.if-c-at.false))

pub returns : goal.returns
returns c = inr (rw c.order.ensures at c.if-c-at.false, rw c.order.ensures at c.link.ensures)
