use native.Mathlib.Omega.{arith}
use Rattle.prune.proofs.Tables.{kept_none, kept_more}
use Rattle.slices.proofs.Walking.{next_none, next_turn, next_ask, next_step, next_all}
use Rattle.slices.proofs.seeds.mark_next.Goals as goal

pub loop-i-init : goal.loop-i-init
loop-i-init c = kept_none c.requires (λ x a. next_none a)

pub bounds-w-at : goal.bounds-w-at
bounds-w-at c = let ((x, (a, z)), f) = c.loop-i.invariant in omega (arith, next_turn a z c.loop-i-test.true)

pub mark-e-requires : goal.mark-e-requires
mark-e-requires c = let ((x, (a, z)), f) = c.loop-i.invariant in next_ask a z c.loop-i-test.true

pub loop-i-preserved : goal.loop-i-preserved
loop-i-preserved c =
    let t = c.loop-i-test.true in
    kept_more c.loop-i.invariant (λ x a z. next_step a z t c.mark-e.ensures)

pub returns : goal.returns
returns c = λ g a. next_all a (c.loop-i.invariant.1 g a) c.loop-i-test.false
