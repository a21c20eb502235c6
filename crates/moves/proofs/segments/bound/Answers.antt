use mathlib.Core.Path.{refl}
use mathlib.Core.Logic.{inl, inr}
use native.Mathlib.Omega.{arith}
use Rattle.moves.proofs.Scanning.{cut_of}
use Rattle.moves.proofs.segments.bound.Goals as goal

pub returns-then-y-n : goal.returns-then-y-n
returns-then-y-n c = inl (c.if-y-n.true, refl)

pub cut-requires : goal.cut-requires
cut-requires c = cut_of c.requires c.if-y-n.false

pub returns : goal.returns
returns c = inr (omega arith, c.cut.ensures)
