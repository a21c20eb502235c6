use native.Mathlib.Omega.{arith}
use Rattle.graph.specs.Table.{graph_of}
use Rattle.index.proofs.Asks.{valid_both}
use Rattle.decompose.proofs.Starting.{started_at}
use Rattle.decompose.proofs.begin.start.Goals as goal

pub both-requires : goal.both-requires
both-requires c = let a = c.requires.ask in valid_both a.valid a.kinded a.small a.few (omega (arith, a.memory.numbers))

pub returns : goal.returns
returns c =
    started_at (graph_of c.args.table.now) c.layout-at.result _ c.args.list.now c.layout-at.ensures c.chains.ensures c.lasts.ensures c.pending.ensures c.words_needed.ensures
    c.requires c.both.ensures c.arrange.ensures c.fill.ensures c.count.ensures c.fill-2.ensures c.fill-3.ensures c.zero_words.ensures
