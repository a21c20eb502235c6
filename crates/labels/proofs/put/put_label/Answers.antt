use Rattle.std.proofs.Common.{◌+◌, arith}
use Rattle.labels.specs.File.{decimal}
use Rattle.labels.specs.Steps.{Written}
use Rattle.labels.proofs.Bytes.{line_digits, line_end, line_written}
use Rattle.labels.proofs.put.put_label.Goals as goal
use Rattle.labels.proofs.put.put_label.Goals.{After-put_number-end}

-- the digits of the label plus one
digits : (c : After-put_number-end) → Written (decimal (c.args.label + 1)) c.args.out.now c.args.at c.put_number-end.result c.put_number-end.new.out
digits c = rw c.from.ensures at c.put_number-end.ensures

pub put_number-end-requires : goal.put_number-end-requires
put_number-end-requires c = (omega (arith, c.from.ensures), rw c.from.ensures (line_digits _ _ _ c.requires))

pub bounds-out-end : goal.bounds-out-end
bounds-out-end c = line_end _ _ _ c.requires _ _ (digits (goal.at.bounds-out-end c).After-put_number-end)

pub overflow_add-result : goal.overflow_add-result
overflow_add-result c = omega (arith, bounds-out-end c)

pub returns : goal.returns
returns c = line_written _ _ _ c.requires _ _ (digits (goal.at.returns c).After-put_number-end)
