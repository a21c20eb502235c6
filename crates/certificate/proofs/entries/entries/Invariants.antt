use Rattle.graph.specs.Table.{graph_of}
use Rattle.certificate.specs.Offer.{EntriesAsk}
use Rattle.certificate.proofs.Offering.{Offers}
use Rattle.certificate.proofs.entries.entries.Given as goal

abbrev pub invariant-loop-e : goal.invariant-loop-e
invariant-loop-e l = EntriesAsk (graph_of l.table) l.table.kinds.now l.label l.d l.b l.w × Offers (graph_of l.table) l.label l.d l.b l.e l.initial.w l.w
