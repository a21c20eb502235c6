use native.Mathlib.Omega.{arith}
use Rattle.linear.proofs.Roots.{run_ask, run_step, run_end}
use Rattle.linear.proofs.search.run.Goals as goal

pub loop-stand-preserved : goal.loop-stand-preserved
loop-stand-preserved c =
    let ((g, (a, z)), f) = c.loop-stand.invariant in
    let h = c.loop-stand-test.true in
    let y = c.step-stand.ensures in
    ((g, (a, run_step z (y g (run_ask z h)))), λ g a. run_step (f g a) (y g (run_ask (f g a) h)))

pub returns : goal.returns
returns c = λ g a. run_end (omega arith) (c.loop-stand.invariant.1 g a)
