use borrow.Author.Tests.{lt-ltb, le-ltb}
use Rattle.graph.specs.Refusal.{lacking}
use Rattle.graph.proofs.limits.lacking.Goals as goal

pub returns-then-numbers-numbers_needed : goal.returns-then-numbers-numbers_needed
unfolding lacking
returns-then-numbers-numbers_needed c = rw (← c.numbers_needed.ensures, lt-ltb _ _ c.if-numbers-numbers_needed.true)

pub returns : goal.returns
unfolding lacking
returns c = rw (← c.numbers_needed.ensures, le-ltb _ _ c.if-numbers-numbers_needed.false, ← c.words_needed.ensures)
