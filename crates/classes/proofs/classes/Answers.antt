use mathlib.Core.Path.{◌≡◌}
use native.Mathlib.Omega.{arith}
use Rattle.memory.proofs.Memory.{framed_more, framed_none}
use Rattle.classes.proofs.Classing.{class_ask}
use Rattle.classes.proofs.classes.Goals as goal

pub loop-l-init : goal.loop-l-init
loop-l-init c = (framed_none _ _ _, λ g q. q.sorted)

pub class-requires : goal.class-requires
class-requires c =
    let (k, z) = c.loop-l.invariant in
    let (a, q) = c.requires in
    ((a, class_ask q (omega arith) k (z a q)), c.loop-l-test.true)

pub loop-l-preserved : goal.loop-l-preserved
loop-l-preserved c =
    let (k, z) = c.loop-l.invariant in
    let (a, q) = c.requires in
    let y = c.class.ensures in
    (framed_more k (y a (class_ask q (omega arith) k (z a q))).kept, λ g q. (y g (class_ask q (omega arith) k (z g q))).sorted)

pub returns : goal.returns
returns c =
    let l = c.loop-l in
    let e : l.l ≡ c.args.along.n = omega arith in
    λ g q. record { kept = l.invariant.0; sorted = rw e at (l.invariant.1 g q) }
