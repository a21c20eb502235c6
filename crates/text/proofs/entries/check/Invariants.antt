use Rattle.std.proofs.Common.{◌≡◌}
use Rattle.lines.specs.Pieces.{lines}
use Rattle.lines.specs.Answers.{pieces_of}
use Rattle.text.specs.Market.{entries}
use Rattle.text.specs.Steps.{only_judged}
use Rattle.text.proofs.entries.check.Given as goal

abbrev pub invariant-loop-line : goal.invariant-loop-line
invariant-loop-line l = only_judged (entries l.size.n l.size.edges (lines l.text)) ≡ only_judged (entries l.size.n l.left (pieces_of l.line-iterator))
