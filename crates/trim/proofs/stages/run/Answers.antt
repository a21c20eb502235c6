use Rattle.graph.specs.Graph.{Graph}
use Rattle.graph.specs.Table.{graph_of}
use Rattle.graph.specs.Arrows.{arrows}
use Rattle.trim.proofs.Whole.{trim_ask, collect_ask, ran}
use Rattle.trim.proofs.stages.run.Goals as goal

pub prune-requires : goal.prune-requires
prune-requires c =
    let given : Graph = graph_of c.args.table.now in
    (arrows (given), trim_ask c.requires c.both.ensures c.colour.ensures c.string-h.ensures)

pub collect-requires : goal.collect-requires
collect-requires c =
    let given : Graph = graph_of c.args.table.now in
    let a = c.requires in
    let o = c.both.ensures in
    let y = c.colour.ensures in
    collect_ask a o y c.string-h.ensures (c.prune.ensures (arrows (given)) (trim_ask a o y c.string-h.ensures)) c.zero_words.ensures

pub returns-clause-ran : goal.returns-clause-ran
returns-clause-ran c =
    let given : Graph = graph_of c.args.table.now in
    let a = c.requires in
    let o = c.both.ensures in
    let y = c.colour.ensures in
    let t = c.prune.ensures (arrows (given)) (trim_ask a o y c.string-h.ensures) in
    ran a o y c.string-h.ensures t c.zero_words.ensures c.collect.ensures
