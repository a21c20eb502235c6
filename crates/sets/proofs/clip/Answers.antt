use native.Mathlib.Omega.{arith}
use Rattle.sets.proofs.Store.{clip_none, clipped}
use Rattle.sets.proofs.clip.Goals as goal

pub returns-then-i-w : goal.returns-then-i-w
returns-then-i-w c = clipped _ _ (omega arith) (omega arith)

pub returns-else-i-w : goal.returns-else-i-w
returns-else-i-w c = clip_none _ _ c.requires c.if-i-w.false
