use Rattle.prune.proofs.Tables.{kept_more}
use Rattle.slices.proofs.Walking.{all_ask, all_step}
use Rattle.slices.proofs.seeds.mark_all.Goals as goal

pub mark_next-e-requires : goal.mark_next-e-requires
mark_next-e-requires c = let ((x, (a, z)), f) = c.loop-i.invariant in (x, all_ask a c.loop-i-test.true z)

pub loop-i-preserved : goal.loop-i-preserved
loop-i-preserved c =
    let t = c.loop-i-test.true in
    kept_more c.loop-i.invariant (λ x a z. all_step a t z (c.mark_next-e.ensures x (all_ask a t z)))
