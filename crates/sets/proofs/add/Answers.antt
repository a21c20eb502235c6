use native.Mathlib.Omega.{arith}
use Rattle.sets.proofs.Store.{added}
use Rattle.sets.proofs.add.Goals as goal

pub returns : goal.returns
returns c = added _ _ (omega arith)
