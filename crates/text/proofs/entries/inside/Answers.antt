use mathlib.Core.Path.{◌∙◌}
use borrow.Author.Tests.{lt-leb}
use Rattle.text.proofs.Edges.{inside_none, inside_some}
use Rattle.text.proofs.entries.inside.Goals as goal

pub returns-then-i-ge1 : goal.returns-then-i-ge1
returns-then-i-ge1 c = inside_some _ _ c.if-i-ge1.true

pub returns-else-i-ge1 : goal.returns-else-i-ge1
returns-else-i-ge1 c = lt-leb _ _ c.if-i-ge1.false ∙ inside_none _ _ c.if-i-ge1.false
