use native.Mathlib.Omega.{arith}
use Rattle.prune.proofs.Tables.{kept_none, kept_more}
use Rattle.slices.proofs.Draining.{settle_none, settle_turn, settle_ask, settle_step, settle_all}
use Rattle.slices.proofs.peel.settle_next.Goals as goal

pub loop-i-init : goal.loop-i-init
loop-i-init c = kept_none c.requires (λ x a. settle_none a)

pub bounds-w-at : goal.bounds-w-at
bounds-w-at c = let ((x, (a, z)), f) = c.loop-i.invariant in omega (arith, settle_turn a z c.loop-i-test.true)

pub settle-count-requires : goal.settle-count-requires
settle-count-requires c = let ((x, (a, z)), f) = c.loop-i.invariant in (x, settle_ask a z c.loop-i-test.true)

pub loop-i-preserved : goal.loop-i-preserved
loop-i-preserved c =
    let t = c.loop-i-test.true in
    kept_more c.loop-i.invariant (λ x a z. settle_step a z t (c.settle-count.ensures x (settle_ask a z t)))

pub returns : goal.returns
returns c = λ g a. settle_all a (c.loop-i.invariant.1 g a).1 c.loop-i-test.false
