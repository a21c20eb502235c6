use mathlib.Core.Path.{◌≡◌, refl}
use Prim.Native.Nat.{◌+◌}
use lib.ListN.{get_or}
use Rattle.ranks.proofs.Scanning.{scan_none, scan_ask, scan_step}
use native.Mathlib.Omega.{arith}
use Rattle.ranks.proofs.scan.Goals as goal

pub loop-j-init : goal.loop-j-init
loop-j-init c = (refl, λ g a. scan_none a)

pub settle-k-requires : goal.settle-k-requires
settle-k-requires c =
    let (g, a) = c.requires in
    (g, scan_ask a (c.loop-j.invariant.1 g a) (omega arith) c.loop-j-test.true)

pub loop-j-preserved : goal.loop-j-preserved
loop-j-preserved c =
    let (_, x) = c.loop-j.invariant in
    let (g, a) = c.requires in
    let y = c.settle-k.ensures in
    let m = c.loop-j-test.true in
    ((scan_step a (x g a) (omega arith) m (y g)).onward.frame.long, λ g a. scan_step a (x g a) (omega arith) m (y g))

pub returns : goal.returns
returns c =
    let (g, a) = c.requires in
    let e : c.loop-j.j ≡ get_or c.args.w.now (c.args.u + 1) 0 = omega (arith, a.order) in
    λ g a. rw e at (c.loop-j.invariant.1 g a)
