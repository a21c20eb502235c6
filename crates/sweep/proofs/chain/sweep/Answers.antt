use Rattle.std.proofs.Common.{arith}
use Rattle.sweep.proofs.Alike.{alike_back, alike_of, turn_alike, turned_alike}
use Rattle.sweep.proofs.Sweeping.{sweep_none, next_is, sweep_turn, sweep_step, sweep_all}
use Rattle.sweep.proofs.chain.sweep.Goals as goal

pub loop-i-init : goal.loop-i-init
loop-i-init c = λ e a. sweep_none a

pub turn-top-requires : goal.turn-top-requires
turn-top-requires c =
    let t = sweep_turn c.requires.1 (c.loop-i.invariant c.requires.0 c.requires.1) c.loop-i-test.true in
    (c.requires.0, turn_alike (alike_of c.args.slicing _ c.of-method.ensures) t)

pub loop-i-smaller : goal.loop-i-smaller
loop-i-smaller c =
    let z = c.loop-i.invariant c.requires.0 c.requires.1 in
    rw c.chains-chains.ensures (omega (arith, (next_is c.requires.1 z c.loop-i-test.true).more))

pub loop-i-preserved : goal.loop-i-preserved
loop-i-preserved c =
    let l = c.loop-i.invariant in
    let t = c.loop-i-test.true in
    let k = alike_of c.args.slicing _ c.of-method.ensures in
    rw c.chains-chains.ensures (λ e a. sweep_step a (l e a) t (turned_alike (alike_back k) c.loop-i.i (c.turn-top.ensures e (turn_alike k (sweep_turn a (l e a) t)))))

pub returns : goal.returns
returns c = λ e a. sweep_all a (c.loop-i.invariant e a) c.loop-i-test.false
