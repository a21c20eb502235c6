use Prim.Native.Nat.{◌+◌}
use native.Mathlib.Omega.{arith}
use mathlib.Core.Path.{◌≡◌}
use lib.ListN.{get_or}
use Rattle.prune.proofs.Tables.{kept_more}
use Rattle.prune.proofs.Rounds.{around_ask, around_step}
use Rattle.prune.proofs.queue.around.Goals as goal

pub examine-k-requires : goal.examine-k-requires
examine-k-requires c =
    let ((g, (s, z)), f) = c.loop-i.invariant in
    rw (c.leaving-leaving.ensures, c.entering-entering.ensures) (g, around_ask s.1 z c.loop-i.auto.i c.loop-i-test.true)

pub loop-i-preserved : goal.loop-i-preserved
loop-i-preserved c =
    let l = c.loop-i.auto.i in
    let h = c.loop-i-test.true in
    let y = rw (c.leaving-leaving.ensures, c.entering-entering.ensures) at c.examine-k.ensures in
    kept_more c.loop-i.invariant (λ g s z. around_step s.1 z l h (y g (around_ask s.1 z l h)))

pub returns : goal.returns
returns c =
    let a = c.args in
    let end : c.loop-i.i ≡ get_or a.w.now (a.along.index + a.u + 1) 0 = omega (arith, c.loop-i.auto.i-end c.requires.1.1.order) in
    rw end at c.loop-i.invariant.1
