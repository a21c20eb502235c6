use Rattle.ranks.proofs.Taking.{take_none, queue_few, take_ask, take_step, take_end}
use Rattle.ranks.proofs.Settling.{ranking_none}
use native.Mathlib.Omega.{arith}
use Rattle.ranks.proofs.peel.Goals as goal

pub loop-h-init : goal.loop-h-init
loop-h-init c = let (g, a) = c.requires in (omega arith, queue_few a (take_none a), ranking_none _ _ _, λ g a. take_none a)

pub scan-k-requires : goal.scan-k-requires
scan-k-requires c =
    let (g, a) = c.requires in
    (g, take_ask a c.loop-h.invariant.2 (c.loop-h.invariant.3 g a) c.loop-h-test.true)

pub loop-h-preserved : goal.loop-h-preserved
loop-h-preserved c =
    let (_, _, f, x) = c.loop-h.invariant in
    let (g, a) = c.requires in
    let y = c.scan-k.ensures in
    let m = c.loop-h-test.true in
    let z = take_step a f (x g a) m (y g) in
    (omega (arith, z.2), queue_few a z.1, z.0, λ g a. (take_step a f (x g a) m (y g)).1)

pub shape_of-w : goal.shape_of-w
shape_of-w c = c.loop-h.invariant.2.long

pub returns : goal.returns
returns c = let l = c.loop-h in λ g. record { frame = l.invariant.2; ended = λ a. take_end a (l.invariant.3 g a) c.loop-h-test.false }
