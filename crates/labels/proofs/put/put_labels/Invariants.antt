use Rattle.std.proofs.Common.{drop}
use Rattle.labels.specs.File.{label_lines}
use Rattle.labels.proofs.Bytes.{Putting}
use Rattle.labels.proofs.put.put_labels.Given as goal

abbrev pub invariant-loop-l : goal.invariant-loop-l
invariant-loop-l l = Putting (label_lines (drop l.l-index l.label)) (label_lines l.label) l.initial.out l.at l.i l.out
