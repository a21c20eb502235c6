use mathlib.Core.Path.{◌≡◌}
use native.Mathlib.Omega.{arith}
use Rattle.paint.proofs.Levels.{turn, turn_ask, turn_step}
use Rattle.paint.proofs.level.Goals as goal

pub scan-q-requires : goal.scan-q-requires
scan-q-requires c = let ((g, (a, z)), f) = c.loop-i.invariant in turn_ask a z c.loop-i.auto.i c.loop-i-test.true

pub overflow_sub-edges : goal.overflow_sub-edges
overflow_sub-edges c = let ((g, (a, z)), f) = c.loop-i.invariant in omega (arith, turn a z c.loop-i.auto.i c.loop-i-test.true)

pub overflow_add-edges : goal.overflow_add-edges
overflow_add-edges c = let ((g, (a, z)), f) = c.loop-i.invariant in omega (arith, turn a z c.loop-i.auto.i c.loop-i-test.true)

pub loop-i-preserved : goal.loop-i-preserved
loop-i-preserved c =
    let ((g, (a, z)), f) = c.loop-i.invariant in
    let l = c.loop-i.auto.i in
    let h = c.loop-i-test.true in
    let y = c.scan-q.ensures in
    ((g, (a, turn_step a z l h y)), λ g a. turn_step a (f g a) l h y)

pub returns : goal.returns
returns c =
    let l = c.loop-i in
    let (g, a) = c.requires in
    let o = a.order in
    let e : l.i ≡ c.args.k = omega arith in
    λ g a. rw e at (l.invariant.1 g a)
