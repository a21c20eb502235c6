use Rattle.reach.proofs.Direction.{back_one}
use Rattle.reach.proofs.steps.neighbours.Goals as goal

-- the mask is that of the call
pub returns-then-backward : goal.returns-then-backward
returns-then-backward c = rw c.if-backward.true (back_one _ c.requires (rw c.turned.ensures at c.one.ensures))
