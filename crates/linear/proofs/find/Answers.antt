use Rattle.std.proofs.Common.{rules}
use Rattle.graph.specs.Table.{graph_of}
use Rattle.graph.specs.Arrows.{arrows}
use Rattle.linear.proofs.Roots.{find_ask, find_begun, find_end}
use Rattle.linear.proofs.find.Goals as goal

-- which edges count does not matter here
pub one-requires : goal.one-requires
one-requires c = let p = find_ask c.requires in record { kinded = p.kinded; column = p.column; even = p.even; room = p.room }

pub roots-requires : goal.roots-requires
roots-requires c = (arrows (graph_of c.args.table.now), find_begun _ c.requires c.one.ensures c.fill.ensures.len (search rules))

pub returns : goal.returns
returns c = find_end _ c.requires c.one.ensures c.fill.ensures.len (search rules) (c.roots.ensures (arrows (graph_of c.args.table.now)) (find_begun _ c.requires c.one.ensures c.fill.ensures.len (search rules)))
