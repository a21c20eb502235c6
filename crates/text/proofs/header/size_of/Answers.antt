use borrow.Author.Tests.{eq-eqb, ne_eqb, lt-ltb, le-ltb}
use Rattle.graph.specs.Refusal.{given, ◌or◌}
use Rattle.text.specs.Market.{size_refusal, sized}
use Rattle.text.proofs.Head.{size_faulty, size_other, size_three}
use Rattle.text.proofs.header.size_of.Goals as goal
use Rattle.text.proofs.header.size_of.Goals.{then-found-ne3-via-then-found-ne3, then-found-ne3-via-else-found-ne3+then-rows-columns}

pub returns-in_default : goal.returns-in_default
returns-in_default c = search size_faulty

pub returns-then-found-ne3 : goal.returns-then-found-ne3
unfolding sized size_refusal given ◌or◌
returns-then-found-ne3 c =
    elim c.then-found-ne3.branch [
      | then-found-ne3-via-then-found-ne3 w ↦ size_other _ _ _ c.row_of.ensures _ c.in-Some.is w.if-found-ne3.true
      | then-found-ne3-via-else-found-ne3+then-rows-columns w ↦ size_three _ _ _ c.row_of.ensures _ c.in-Some.is w.if-found-ne3.false _ (rw (ne_eqb _ _ w.if-rows-columns.true))
    ]

pub returns-then-limits-n : goal.returns-then-limits-n
unfolding sized size_refusal given ◌or◌
returns-then-limits-n c = search (size_three, eq-eqb, lt-ltb, le-ltb)

pub returns-then-limits-edges : goal.returns-then-limits-edges
unfolding sized size_refusal given ◌or◌
returns-then-limits-edges c = search (size_three, eq-eqb, lt-ltb, le-ltb)

pub returns-then-limits-edges-2 : goal.returns-then-limits-edges-2
unfolding sized size_refusal given ◌or◌
returns-then-limits-edges-2 c = search (size_three, eq-eqb, lt-ltb, le-ltb)

pub returns : goal.returns
unfolding sized size_refusal given ◌or◌
returns c = search (size_three, eq-eqb, lt-ltb, le-ltb)
