use mathlib.Core.Path.{refl}
use mathlib.Core.Logic.{inl, inr}
use Rattle.ranks.proofs.free.Goals as goal

pub returns-then-w-at-ne0 : goal.returns-then-w-at-ne0
returns-then-w-at-ne0 c = inl (c.if-w-at-ne0.true, refl, refl)

pub returns : goal.returns
returns c = inr (c.if-w-at-ne0.false, refl, refl)
