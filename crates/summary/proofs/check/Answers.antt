use mathlib.Core.Path.{sym, ◌∙◌}
use borrow.Author.Tests.{lt-ltb, le-ltb, eq-eqb, ne_eqb}
use Rattle.graph.specs.Refusal.{given, ◌or◌}
use Rattle.summary.specs.Promise.{summary_refusal}
use Rattle.summary.proofs.check.Goals as goal

pub returns-then-n-gt-MOST_VERTICES : goal.returns-then-n-gt-MOST_VERTICES
unfolding summary_refusal given ◌or◌
returns-then-n-gt-MOST_VERTICES c = rw (lt-ltb _ _ c.if-n-gt-MOST_VERTICES.true)

pub returns-then-label-n : goal.returns-then-label-n
unfolding summary_refusal given ◌or◌
returns-then-label-n c = rw (le-ltb _ _ c.if-n-gt-MOST_VERTICES.false, ne_eqb _ _ c.if-label-n.true)

pub returns-then-outside : goal.returns-then-outside
unfolding summary_refusal given ◌or◌
returns-then-outside c = rw (le-ltb _ _ c.if-n-gt-MOST_VERTICES.false, eq-eqb _ _ c.if-label-n.false, sym c.outside.ensures ∙ c.if-outside.true)

pub returns : goal.returns
unfolding summary_refusal given ◌or◌
returns c = rw (le-ltb _ _ c.if-n-gt-MOST_VERTICES.false, eq-eqb _ _ c.if-label-n.false, sym c.outside.ensures ∙ c.if-outside.false)
