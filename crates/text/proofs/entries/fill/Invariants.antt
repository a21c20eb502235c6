use Rattle.lines.specs.Answers.{pieces_of}
use Rattle.text.proofs.Edges.{Filling}
use Rattle.text.proofs.entries.fill.Given as goal

abbrev pub invariant-loop-line : goal.invariant-loop-line
invariant-loop-line l = Filling l.text l.size l.initial.sources l.initial.targets (pieces_of l.line-iterator) l.k l.sources l.targets
