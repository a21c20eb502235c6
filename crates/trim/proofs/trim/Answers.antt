use mathlib.Core.Path.{sym}
use native.Mathlib.Omega.{arith}
use Rattle.trim.proofs.Whole.{accepted, run_ask, clear_ask, finished}
use Rattle.trim.proofs.trim.Goals as goal

pub run-requires : goal.run-requires
run-requires c = run_ask _ (sym c.in_ok-refusal.ensures)

pub size-vertices-requires : goal.size-vertices-requires
size-vertices-requires c =
    let a = accepted _ (sym c.in_ok-refusal.ensures) in
    omega (arith, a.left, a.table.small, c.run.ensures.ran.long)

pub clear-requires : goal.clear-requires
clear-requires c = clear_ask _ (sym c.in_ok-refusal.ensures) _ c.run.ensures.ran.numbers

pub returns : goal.returns
returns c = record { refusal = c.in_ok-refusal.ensures; gives = finished _ (sym c.in_ok-refusal.ensures) c.run.ensures.ran c.run.ensures.fit c.size-vertices.ensures c.clear.ensures }
