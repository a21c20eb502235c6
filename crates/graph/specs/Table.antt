-- A lent table as a collection, and with every edge turned.
use Rattle.graph.specs.Graph.{Graph, table}
use Rattle.graph.specs.declared.table.Table.{Table}

abbrev pub graph_of : Table → Graph
graph_of t = table t.n t.sources.now t.targets.now t.kinds.now t.mask

abbrev pub turned_of : Table → Table
turned_of t = record { n = t.n; sources = t.targets; targets = t.sources; kinds = t.kinds; mask = t.mask }
