use mathlib.Core.Path.{◌≡◌}
use native.Mathlib.Omega.{arith}
use Rattle.paint.proofs.Levels.{scan_ask, scan_step}
use Rattle.paint.proofs.scan.Goals as goal

pub visit-k-requires : goal.visit-k-requires
visit-k-requires c = let (a, z) = c.loop-i.invariant in scan_ask a z c.loop-i.auto.i c.loop-i-test.true

pub loop-i-preserved : goal.loop-i-preserved
loop-i-preserved c =
    let (a, z) = c.loop-i.invariant in
    (a, scan_step a z c.loop-i.auto.i c.loop-i-test.true c.visit-k.ensures)

pub returns : goal.returns
returns c =
    let l = c.loop-i in
    let o = c.requires.order in
    let e : l.i ≡ c.args.t = omega arith in
    rw e at l.invariant.1
