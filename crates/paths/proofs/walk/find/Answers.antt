use Rattle.graph.specs.Arrows.{arrows}
use Rattle.graph.specs.Table.{graph_of}
use Rattle.paths.proofs.Indexes.{one_ask, numbers_ask, indexed}
use Rattle.paths.proofs.Walks.{fill_room, measure_ask, find_all}
use Rattle.paths.proofs.walk.find.Goals as goal

pub one-requires : goal.one-requires
one-requires c = one_ask c.requires

-- which edges count does not matter here
pub numbers-requires : goal.numbers-requires
numbers-requires c = let p = numbers_ask c.turned.ensures c.requires c.one.ensures in record { kinded = p.kinded; column = p.column; even = p.even; long = p.long }

pub fill-requires : goal.fill-requires
fill-requires c = fill_room c.requires (indexed c.turned.ensures c.requires c.one.ensures c.numbers.ensures)

pub measure-requires : goal.measure-requires
measure-requires c = (arrows (graph_of c.args.table.now), measure_ask c.requires (indexed c.turned.ensures c.requires c.one.ensures c.numbers.ensures) c.fill.ensures)

pub returns : goal.returns
returns c =
    let x = indexed c.turned.ensures c.requires c.one.ensures c.numbers.ensures in
    find_all c.requires x c.fill.ensures (c.measure.ensures (arrows (graph_of c.args.table.now)) (measure_ask c.requires x c.fill.ensures))
