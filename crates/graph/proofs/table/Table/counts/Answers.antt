use Rattle.std.proofs.Common.{sym, ap}
use lib.Bits.{and_mask}
use lib.Dec.{eqb}
use Rattle.graph.specs.Graph.{in_mask}
use Rattle.graph.proofs.Masks.{full_has_of}
use Rattle.graph.proofs.table.Table.counts.Goals as goal

pub returns-then-self : goal.returns-then-self
returns-then-self c = sym (full_has_of _ c.requires.low c.if-self.true)

pub returns : goal.returns
unfolding in_mask
returns c = ap (λ x. eqb x 1) (and_mask _ 1)
