use Rattle.std.proofs.Common.{◌≡◌, ◌≤◌, ◌+◌, ◌*◌, length, drop}
use Rattle.labels.specs.File.{label_lines}
use Rattle.labels.proofs.lines_length.Given as goal

abbrev pub invariant-loop-l : goal.invariant-loop-l
invariant-loop-l l = (l.total ≤ 11 * l.l-index) × (l.total + length (label_lines (drop l.l-index l.label)) ≡ length (label_lines l.label))
