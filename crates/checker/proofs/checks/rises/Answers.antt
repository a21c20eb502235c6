use mathlib.Core.Path.{sym, ◌∙◌}
use borrow.Author.Tests.{eq-eqb, ne_eqb}
use Rattle.graph.specs.Checker.{check5}
use Rattle.checker.proofs.checks.rises.Goals as goal

pub returns-then-not-counts : goal.returns-then-not-counts
unfolding check5
returns-then-not-counts c = rw (sym c.counts-counts.ensures ∙ c.if-not-counts.true)

pub returns-then-label-u : goal.returns-then-label-u
unfolding check5
returns-then-label-u c = rw (sym c.counts-counts.ensures ∙ c.if-not-counts.false, eq-eqb _ _ c.if-label-u.true)

pub returns-else-label-u : goal.returns-else-label-u
unfolding check5
returns-else-label-u c = rw (sym c.counts-counts.ensures ∙ c.if-not-counts.false, ne_eqb _ _ c.if-label-u.false)
