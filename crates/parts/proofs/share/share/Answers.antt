use Rattle.std.proofs.Common.{◌≡◌, refl, arith}
use Rattle.parts.proofs.Sharing.{share_start, next_of, hang_ask, share_step, share_here}
use Rattle.parts.proofs.share.share.Goals as goal

pub loop-i-init : goal.loop-i-init
loop-i-init c = (omega (arith, c.requires.first.low), λ a t. refl, share_start c.requires)

pub hang-k-requires : goal.hang-k-requires
hang-k-requires c =
    let a = c.requires in
    let h = c.loop-i-test.true in
    hang_ask a c.loop-i.invariant.2 h (c.loop-i.invariant.1 a h)

pub loop-i-smaller : goal.loop-i-smaller
loop-i-smaller c =
    let a = c.requires in
    let h = c.loop-i-test.true in
    rw c.chains-chains.ensures (omega (arith, (next_of a c.loop-i.invariant.2 h (c.loop-i.invariant.1 a h)).more))

pub loop-i-preserved : goal.loop-i-preserved
loop-i-preserved c =
    let a = c.requires in
    let l = c.loop-i.invariant in
    let h = c.loop-i-test.true in
    rw c.chains-chains.ensures ((next_of a l.2 h (l.1 a h)).most, λ a t. share_here a l.2 h (l.1 a h) t, share_step a l.2 h (l.1 a h) c.hang-k.ensures)

pub returns : goal.returns
returns c = let e : c.loop-i.i ≡ c.args.at.n = omega arith in rw e at c.loop-i.invariant.2
