use Rattle.prune.proofs.Tables.{kept_none, kept_more}
use Rattle.slices.proofs.Draining.{drain_none, drain_ask, drain_step, drain_all}
use Rattle.slices.proofs.peel.drain.Goals as goal

pub loop-h-init : goal.loop-h-init
loop-h-init c = kept_none c.requires (λ x a. drain_none a)

pub settle_next-count-requires : goal.settle_next-count-requires
settle_next-count-requires c = let ((x, (a, z)), f) = c.loop-h.invariant in (x, drain_ask a z c.loop-h-test.true)

pub loop-h-preserved : goal.loop-h-preserved
loop-h-preserved c =
    let t = c.loop-h-test.true in
    kept_more c.loop-h.invariant (λ x a z. drain_step a z t (c.settle_next-count.ensures x (drain_ask a z t)))

pub returns : goal.returns
returns c = λ g a. drain_all a (c.loop-h.invariant.1 g a) c.loop-h-test.false
