use Rattle.std.proofs.Common.{length, rules, arith}
use Rattle.graph.specs.Limits.{most_kinds}
use Rattle.graph.specs.Refusal.{Greatest}
use Rattle.graph.proofs.Refusals.{greatest_tells}
use Rattle.graph.proofs.table.kind_outside.Goals as goal

pub returns : goal.returns
returns c =
    let g : Greatest (length c.args.kinds.now) c.args.kinds.now c.unwrap_or-top.result = search rules in
    greatest_tells most_kinds _ _ (omega arith) g
