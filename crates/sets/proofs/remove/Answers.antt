use native.Mathlib.Omega.{arith}
use Rattle.sets.proofs.Store.{removed}
use Rattle.sets.proofs.remove.Goals as goal

pub returns : goal.returns
returns c = removed _ _ (omega arith)
