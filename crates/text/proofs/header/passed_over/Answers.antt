use Rattle.std.proofs.Common.{◌∙◌, rules}
use Rattle.text.proofs.Head.{passed_comment, passed_faulty, passed_count}
use Rattle.text.proofs.header.passed_over.Goals as goal

pub returns-then-is_comment : goal.returns-then-is_comment
returns-then-is_comment c = c.if-is_comment.true ∙ passed_comment _ _ c.is_comment.ensures c.if-is_comment.true

pub returns-else-is_comment : goal.returns-else-is_comment
returns-else-is_comment c = search (rules, passed_faulty, passed_count)
