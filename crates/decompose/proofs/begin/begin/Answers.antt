use native.Mathlib.Omega.{arith}
use Rattle.decompose.specs.Begin.{nothing, begun}
use Rattle.decompose.proofs.begin.begin.Goals as goal

pub returns-then-table-eq0 : goal.returns-then-table-eq0
returns-then-table-eq0 c = rw c.first-whole.ensures (nothing c.if-table-eq0.true)

pub returns : goal.returns
returns c = rw (c.aimed.ensures, c.first-whole.ensures) (begun (omega (arith, c.if-table-eq0.false)) c.start.ensures)
