use Rattle.prune.proofs.Tables.{kept_none, kept_more}
use Rattle.slices.proofs.Draining.{pass_none, pass_ask, pass_step, pass_all}
use Rattle.slices.proofs.peel.pass.Goals as goal

pub loop-i-init : goal.loop-i-init
loop-i-init c = kept_none c.requires (λ x a. pass_none a)

pub settle-count-requires : goal.settle-count-requires
settle-count-requires c = let ((x, (a, z)), f) = c.loop-i.invariant in rw c.seeds-seeds.ensures (x, pass_ask a c.loop-i-test.true z)

pub loop-i-preserved : goal.loop-i-preserved
loop-i-preserved c =
    let t = c.loop-i-test.true in
    let y = rw c.seeds-seeds.ensures at c.settle-count.ensures in
    kept_more c.loop-i.invariant (λ x a z. pass_step a t z (y x (pass_ask a t z)))

pub returns : goal.returns
returns c = λ g a. pass_all a c.loop-i-test.false (c.loop-i.invariant.1 g a)
