use mathlib.Core.Path.{sym, ◌∙◌}
use borrow.Author.Tests.{lt-ltb, le-ltb, eq-eqb, ne_eqb}
use Rattle.graph.specs.Refusal.{given, ◌or◌, table_refusal}
use Rattle.graph.proofs.table.Table.check.Goals as goal
use Rattle.graph.proofs.table.Table.check.Goals.{then-outside-via-then-outside, then-outside-via-else-outside+then-outside-2}

pub returns-then-self-gt-MOST_VERTICES : goal.returns-then-self-gt-MOST_VERTICES
unfolding table_refusal given ◌or◌
returns-then-self-gt-MOST_VERTICES c = rw (lt-ltb _ _ c.if-self-gt-MOST_VERTICES.true)

pub returns-then-self : goal.returns-then-self
unfolding table_refusal given ◌or◌
returns-then-self c = rw (le-ltb _ _ c.if-self-gt-MOST_VERTICES.false, ne_eqb _ _ c.if-self.true)

pub returns-then-self-2 : goal.returns-then-self-2
unfolding table_refusal given ◌or◌
returns-then-self-2 c = rw (le-ltb _ _ c.if-self-gt-MOST_VERTICES.false, eq-eqb _ _ c.if-self.false, ne_eqb _ _ c.if-self-2.true)

pub returns-then-self-gt-MOST_EDGES : goal.returns-then-self-gt-MOST_EDGES
unfolding table_refusal given ◌or◌
returns-then-self-gt-MOST_EDGES c = rw (le-ltb _ _ c.if-self-gt-MOST_VERTICES.false, eq-eqb _ _ c.if-self.false, eq-eqb _ _ c.if-self-2.false, lt-ltb _ _ c.if-self-gt-MOST_EDGES.true)

pub returns-then-outside : goal.returns-then-outside
unfolding table_refusal given ◌or◌
returns-then-outside c =
    elim c.then-outside.branch [
      | then-outside-via-then-outside w ↦ rw (le-ltb _ _ c.if-self-gt-MOST_VERTICES.false, eq-eqb _ _ c.if-self.false, eq-eqb _ _ c.if-self-2.false, le-ltb _ _ c.if-self-gt-MOST_EDGES.false, sym c.outside.ensures ∙ w.if-outside.true)
      | then-outside-via-else-outside+then-outside-2 w ↦ rw (le-ltb _ _ c.if-self-gt-MOST_VERTICES.false, eq-eqb _ _ c.if-self.false, eq-eqb _ _ c.if-self-2.false, le-ltb _ _ c.if-self-gt-MOST_EDGES.false, sym c.outside.ensures ∙ w.if-outside.false, sym w.outside-else-outside.ensures ∙ w.if-outside-2.true)
    ]

pub returns-then-kind_outside : goal.returns-then-kind_outside
unfolding table_refusal given ◌or◌
returns-then-kind_outside c = rw (le-ltb _ _ c.if-self-gt-MOST_VERTICES.false, eq-eqb _ _ c.if-self.false, eq-eqb _ _ c.if-self-2.false, le-ltb _ _ c.if-self-gt-MOST_EDGES.false, sym c.outside.ensures ∙ c.if-outside.false, sym c.outside-else-outside.ensures ∙ c.if-outside-2.false, sym c.kind_outside.ensures ∙ c.if-kind_outside.true)

pub returns : goal.returns
unfolding table_refusal given ◌or◌
returns c = rw (le-ltb _ _ c.if-self-gt-MOST_VERTICES.false, eq-eqb _ _ c.if-self.false, eq-eqb _ _ c.if-self-2.false, le-ltb _ _ c.if-self-gt-MOST_EDGES.false, sym c.outside.ensures ∙ c.if-outside.false, sym c.outside-else-outside.ensures ∙ c.if-outside-2.false, sym c.kind_outside.ensures ∙ c.if-kind_outside.false)
