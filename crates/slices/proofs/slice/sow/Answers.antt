use native.Mathlib.Omega.{arith}
use mathlib.Core.Path.{◌≡◌}
use Rattle.prune.proofs.Tables.{kept_none, kept_more}
use Rattle.slices.proofs.Cutting.{sow_none, sow_visit, sow_step}
use Rattle.slices.proofs.slice.sow.Goals as goal

pub loop-i-init : goal.loop-i-init
loop-i-init c = kept_none c.requires (λ x a. sow_none a)

pub visit-k-requires : goal.visit-k-requires
visit-k-requires c =
    let ((x, (a, z)), f) = c.loop-i.invariant in
    rw (c.forward-forward.ensures, c.change-map.ensures, c.seeds-seeds.ensures) (sow_visit a c.loop-i-test.true c.loop-i.auto.i z)

pub loop-i-preserved : goal.loop-i-preserved
loop-i-preserved c =
    let y = rw (c.forward-forward.ensures, c.change-map.ensures, c.seeds-seeds.ensures) at c.visit-k.ensures in
    kept_more c.loop-i.invariant (λ x a z. sow_step a c.loop-i-test.true c.loop-i.auto.i z y)

pub returns : goal.returns
returns c =
    let order = c.requires.1.listing.order in
    let end : c.loop-i.i ≡ c.args.places.to = omega arith in
    rw end at c.loop-i.invariant.1
