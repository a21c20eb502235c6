use native.Mathlib.Omega.{arith}
use mathlib.Core.Path.{sym, ◌∙◌}
use Rattle.reach.proofs.Outcome.{accepted, neighbours_ask, run_ask, run_found, clear_ask, finished}
use Rattle.reach.proofs.search.Goals as goal

pub neighbours-requires : goal.neighbours-requires
neighbours-requires c = neighbours_ask _ (sym c.in_ok-refusal.ensures)

pub run-edges-requires : goal.run-edges-requires
run-edges-requires c = run_ask _ (sym c.in_ok-refusal.ensures) c.args.backward c.neighbours.ensures

pub size-vertices-requires : goal.size-vertices-requires
size-vertices-requires c =
    let pass = sym c.in_ok-refusal.ensures in
    let a = accepted _ pass in
    omega (arith, a.reached, a.table.small, (run_found _ pass c.args.backward c.neighbours.ensures c.run-edges.ensures.found).long)

pub clear-requires : goal.clear-requires
clear-requires c =
    let pass = sym c.in_ok-refusal.ensures in
    clear_ask _ pass _ ((run_found _ pass c.args.backward c.neighbours.ensures c.run-edges.ensures.found).frame.long ∙ c.neighbours.ensures.long)

pub returns : goal.returns
returns c =
    let e = sym c.in_ok-refusal.ensures in
    record {
      refusal = sym e;
      gives = finished _ e _ c.neighbours.ensures (run_found _ e c.args.backward c.neighbours.ensures c.run-edges.ensures.found) c.run-edges.ensures.fit c.size-vertices.ensures c.clear.ensures;
    }
