use Rattle.std.proofs.Common.{refl, inl, inr}
use Rattle.parts.proofs.share.link.Goals as goal

pub returns-then-t-at : goal.returns-then-t-at
returns-then-t-at c = rw c.chains-chains.ensures (inl (rw c.chains-chains.ensures at c.if-t-at.true, refl, refl))

pub returns : goal.returns
returns c = rw (c.chains-chains.ensures, c.pending.ensures) (inr (rw c.chains-chains.ensures at c.if-t-at.false, refl, refl))
