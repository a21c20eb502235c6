use mathlib.Core.Path.{ap}
use Prim.Native.Nat.{ℕ}
use lib.Bits.{and_mask}
use lib.Dec.{eqb}
use Rattle.graph.specs.Sets.{bit}
use Rattle.sets.proofs.has.Goals as goal

pub returns : goal.returns
unfolding bit
returns c = ap (λ (x : ℕ). eqb x 1) (and_mask _ 1)
