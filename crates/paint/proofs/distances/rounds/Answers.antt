use Rattle.paint.proofs.Nearness.{rounds_none, rounds_ask, rounds_step, rounds_all}
use Rattle.paint.proofs.distances.rounds.Goals as goal

pub loop-h-init : goal.loop-h-init
loop-h-init c = let (g, a) = c.requires in ((g, (a, rounds_none a)), λ g a. rounds_none a)

pub level-s-requires : goal.level-s-requires
level-s-requires c = let ((g, (a, z)), f) = c.loop-h.invariant in (g, rounds_ask a z c.loop-h-test.true)

pub loop-h-preserved : goal.loop-h-preserved
loop-h-preserved c =
    let ((g, (a, z)), f) = c.loop-h.invariant in
    let h = c.loop-h-test.true in
    let y = c.level-s.ensures in
    ((g, (a, rounds_step a z h (y g (rounds_ask a z h)))), λ g a. let z = f g a in rounds_step a z h (y g (rounds_ask a z h)))

pub returns : goal.returns
returns c = λ g a. rounds_all a (c.loop-h.invariant.1 g a) c.loop-h-test.false
