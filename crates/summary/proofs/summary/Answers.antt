use Rattle.summary.proofs.Outcome.{column_small, summed}
use Rattle.summary.proofs.summary.Goals as goal

pub count-own-requires : goal.count-own-requires
count-own-requires c = column_small _ _ _ c.check.ensures c.in_ok-check.was

pub all-totals-requires : goal.all-totals-requires
all-totals-requires c = column_small _ _ _ c.check.ensures c.in_ok-check.was

pub returns : goal.returns
returns c = summed _ _ _ c.check.ensures c.in_ok-check.was _ _ c.count-own.ensures c.all-totals.ensures
