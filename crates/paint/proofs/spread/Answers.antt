use native.Mathlib.Omega.{arith}
use Rattle.paint.proofs.Spreading.{spread_none, spread_few, spread_ask, spread_step, spread_room}
use Rattle.paint.proofs.spread.Goals as goal

pub loop-h-init : goal.loop-h-init
loop-h-init c = let (g, a) = c.requires in (omega arith, (g, (a, spread_none a)), λ g a. spread_none a)

pub level-s-requires : goal.level-s-requires
level-s-requires c = let (l, (g, (a, z)), f) = c.loop-h.invariant in (g, spread_ask a z l)

pub overflow_add-edges : goal.overflow_add-edges
overflow_add-edges c =
    let (l, (g, (a, z)), f) = c.loop-h.invariant in
    omega (arith, spread_few a z, spread_room a (spread_step a z (c.level-s.ensures g (spread_ask a z l))))

pub loop-h-smaller : goal.loop-h-smaller
loop-h-smaller c = let (l, (g, (a, z)), f) = c.loop-h.invariant in omega (arith, spread_few a z)

pub loop-h-preserved : goal.loop-h-preserved
loop-h-preserved c =
    let (l, (g, (a, z)), f) = c.loop-h.invariant in
    let y = c.level-s.ensures in
    let r = y g (spread_ask a z l) in
    (r.grew.more, (g, (a, spread_step a z r)), λ g a. spread_step a (f g a) (y g (spread_ask a (f g a) l)))
