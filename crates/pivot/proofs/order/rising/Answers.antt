use Rattle.pivot.proofs.Places.{counted_ordered}
use Rattle.pivot.proofs.order.rising.Goals as goal

pub returns : goal.returns
returns c = counted_ordered (rw c.order.ensures at c.count.ensures)
