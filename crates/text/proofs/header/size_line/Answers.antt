use Rattle.std.proofs.Common.{rules, tests}
use Rattle.text.proofs.Head.{size_line_found}
use Rattle.text.proofs.header.size_line.Goals as goal

pub returns-clause-first : goal.returns-clause-first
returns-clause-first c = (size_line_found _ _ (λ x b q k. search (rules, tests)) c.args.lines.now c.find.new.self _ c.find.ensures.ran).0

pub returns-clause-stop : goal.returns-clause-stop
returns-clause-stop c = (size_line_found _ _ (λ x b q k. search (rules, tests)) c.args.lines.now c.find.new.self _ c.find.ensures.ran).1
