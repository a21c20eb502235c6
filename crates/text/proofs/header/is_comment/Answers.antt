use Rattle.std.proofs.Common.{◌∙◌}
use borrow.Author.Tests.{lt-leb}
use Rattle.text.proofs.Head.{comment_long, comment_first}
use Rattle.text.proofs.header.is_comment.Goals as goal

pub returns-then-line-le-LONGEST_LINE : goal.returns-then-line-le-LONGEST_LINE
returns-then-line-le-LONGEST_LINE c = comment_first _ _ c.starts_with.ensures.value c.if-line-le-LONGEST_LINE.true

pub returns-else-line-le-LONGEST_LINE : goal.returns-else-line-le-LONGEST_LINE
returns-else-line-le-LONGEST_LINE c = lt-leb _ _ c.if-line-le-LONGEST_LINE.false ∙ comment_long _ c.if-line-le-LONGEST_LINE.false
