use Rattle.std.proofs.Common.{◌≡◌, ◌<◌, length, sym, rules, arith}
use Rattle.graph.specs.Refusal.{Greatest}
use Rattle.graph.proofs.Refusals.{outside_no, greatest_of}
use Rattle.graph.proofs.table.outside.Goals as goal

pub returns-then-is_empty : goal.returns-then-is_empty
returns-then-is_empty c = sym (outside_no _ _ (λ i l. let none : length c.args.column.now ≡ 0 = search rules in absurd (omega arith)))

pub returns : goal.returns
returns c =
    let g : Greatest (length c.args.column.now) c.args.column.now c.unwrap_or-top.result = search rules in
    let some : 0 < length c.args.column.now = search rules in
    greatest_of _ _ _ some g
