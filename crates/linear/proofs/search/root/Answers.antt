use native.Mathlib.Omega.{arith}
use Rattle.linear.proofs.Roots.{root_begun, root_run, root_few}
use Rattle.linear.proofs.search.root.Goals as goal

pub run-requires : goal.run-requires
run-requires c =
    let (g, a) = c.requires in
    (g, root_begun a c.if-label-r.false c.begin.ensures)

pub overflow_add-result : goal.overflow_add-result
overflow_add-result c =
    let (g, a) = c.requires in
    let h = c.if-label-r.false in
    let e = c.begin.ensures in
    omega (arith, root_few a h e (c.run.ensures g (root_begun a h e)), a.known.small, a.known.few)

pub returns : goal.returns
returns c =
    let h = c.if-label-r.false in
    let e = c.begin.ensures in
    λ g a. root_run a h e (c.run.ensures g (root_begun a h e))
