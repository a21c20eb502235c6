use mathlib.Core.Path.{◌∙◌}
use native.Mathlib.Omega.{arith}
use lib.ListN.{length-set}
use Rattle.paint.proofs.Growth.{k_lt, visit_one}
use Rattle.paint.proofs.visit.Goals as goal

pub bounds-w-along-3 : goal.bounds-w-along-3
bounds-w-along-3 c = simp length-set (omega (arith, k_lt c.requires (λ q. c.if-z-y.false (c.of-z.ensures ∙ q))))

pub returns : goal.returns
returns c = let z = c.of-z.ensures in rw z (visit_one c.requires (λ q. c.if-z-y.false (z ∙ q)))
