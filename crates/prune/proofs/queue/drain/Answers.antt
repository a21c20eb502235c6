use native.Mathlib.Omega.{arith}
use Rattle.prune.proofs.Tables.{kept_more}
use Rattle.prune.proofs.Steps.{pruned_more}
use Rattle.prune.proofs.Rounds.{drain_beside, drain_step, drain_end}
use Rattle.prune.proofs.queue.drain.Goals as goal

pub beside-k-requires : goal.beside-k-requires
beside-k-requires c =
    let (_, ((g, (a, (z, t))), f)) = c.loop-h.invariant in
    (g, drain_beside c.loop-h.h z.state t c.loop-h-test.true)

pub loop-h-preserved : goal.loop-h-preserved
loop-h-preserved c =
    let (_, k) = c.loop-h.invariant in
    let ((g, (a, (z, t))), f) = k in
    let h = c.loop-h-test.true in
    let y = c.beside-k.ensures in (
      omega (arith, (y g (drain_beside c.loop-h.h z.state t h)).pruned.more, h),
      kept_more k (λ g a (z, t). let y = y g (drain_beside c.loop-h.h z.state t h) in (pruned_more z y.pruned, drain_step c.loop-h.h z.state h y t)),
    )

pub returns : goal.returns
returns c = let l = c.loop-h in λ g a. let (p, t) = l.invariant.1.1 g a in record { pruned = p; stands = drain_end l.h (omega arith) t }
