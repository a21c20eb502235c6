use Rattle.split.proofs.Naming.{lowest_take, lowest_skip}
use Rattle.split.proofs.lowest.Goals as goal
use Rattle.split.proofs.lowest.Goals.{then-w-at, else-w-at}

pub loop-i-preserved : goal.loop-i-preserved
loop-i-preserved c =
    elim c.if-w-at.branch [
      | then-w-at w ↦ rw (w.l-is, w.min-l.ensures) (lowest_take c.loop-i.invariant w.if-w-at.true)
      | else-w-at w ↦ rw w.l-is (lowest_skip c.loop-i.invariant w.if-w-at.false)
    ]
