use mathlib.Core.Path.{sym}
use Rattle.graph.specs.Refusal.{given}
use Rattle.checker.proofs.Columns.check.Goals as goal

pub returns-then-wrong_size : goal.returns-then-wrong_size
unfolding given
returns-then-wrong_size c = rw (sym c.if-wrong_size.ensures)

pub returns : goal.returns
unfolding given
returns c = rw (sym c.if-wrong_size.ensures)
