use Rattle.lines.specs.Answers.{pieces_of}
use Rattle.lines.proofs.Rows.{Upto}
use Rattle.lines.proofs.numbers.row_of.Given as goal

abbrev pub invariant-loop-word : goal.invariant-loop-word
invariant-loop-word l = Upto l.line l.found (pieces_of l.word-iterator)
