use native.Mathlib.Omega.{arith}
use Rattle.sweep.proofs.Drawing.{drawing_none, drawing_few, drawing_ask, drawing_step, drawing_less, drawing_all}
use Rattle.sweep.proofs.drawn.run.Goals as goal

pub loop-now-init : goal.loop-now-init
loop-now-init c = λ e a. drawing_none a

pub turn-now-requires : goal.turn-now-requires
turn-now-requires c = (c.requires.0, drawing_ask c.requires.1 (c.loop-now.invariant c.requires.0 c.requires.1) c.loop-now-test.true)

pub overflow_add-draws : goal.overflow_add-draws
overflow_add-draws c = omega (arith, drawing_few c.requires.1 (c.loop-now.invariant c.requires.0 c.requires.1), c.requires.1.ready.stage.tables.small)

pub loop-now-smaller : goal.loop-now-smaller
loop-now-smaller c =
    let z = c.loop-now.invariant c.requires.0 c.requires.1 in
    drawing_less c.requires.1 z (c.turn-now.ensures c.requires.0 (drawing_ask c.requires.1 z c.loop-now-test.true))

pub loop-now-preserved : goal.loop-now-preserved
loop-now-preserved c =
    let l = c.loop-now in
    let t = c.loop-now-test.true in
    λ e a. drawing_step a (l.invariant e a) (c.turn-now.ensures e (drawing_ask a (l.invariant e a) t))

pub returns : goal.returns
returns c = λ e a. drawing_all a (c.loop-now.invariant e a) (λ h. absurd (omega (arith, h, c.loop-now-test.false)))
