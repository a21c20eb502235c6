use Rattle.graph.specs.Table.{graph_of}
use Rattle.ranks.specs.Peel.{Ground}
use Rattle.ranks.proofs.Freeing.{Tallied}
use Rattle.ranks.proofs.counts.Given as goal

abbrev pub invariant-loop-e : goal.invariant-loop-e
invariant-loop-e l = Ground (graph_of l.table) l.label l.base l.w × Tallied (graph_of l.table) l.label l.base l.e l.initial.w l.w
