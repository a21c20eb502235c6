use Rattle.lines.proofs.Words.{Digits}
use Rattle.lines.proofs.numbers.number_of.Given as goal

abbrev pub invariant-loop-b : goal.invariant-loop-b
invariant-loop-b l = Digits l.word l.value l.b-index
