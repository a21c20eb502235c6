use native.Mathlib.Omega.{arith}
use Rattle.sweep.proofs.Marking.{mark_none, mark_next, enter_ask, mark_step, mark_all}
use Rattle.sweep.proofs.set.mark.Goals as goal

pub loop-i-init : goal.loop-i-init
loop-i-init c = λ a. mark_none a

pub enter-k-requires : goal.enter-k-requires
enter-k-requires c = enter_ask c.requires (c.loop-i.invariant c.requires) c.loop-i-test.true

pub loop-i-smaller : goal.loop-i-smaller
loop-i-smaller c =
    let a = c.requires in
    rw c.chains-chains.ensures (omega (arith, (mark_next a (c.loop-i.invariant a) c.loop-i-test.true).more))

pub loop-i-preserved : goal.loop-i-preserved
loop-i-preserved c = rw c.chains-chains.ensures (λ a. mark_step a (c.loop-i.invariant a) c.loop-i-test.true c.enter-k.ensures)

pub returns : goal.returns
returns c = mark_all c.requires (c.loop-i.invariant c.requires) c.loop-i-test.false
