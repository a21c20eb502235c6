use native.Mathlib.Omega.{arith}
use Rattle.certificate.proofs.Offering.{entries_kept, offered_kept, offer_ask, offers_none, offers_step, offers_all}
use Rattle.certificate.proofs.entries.entries.Goals as goal

pub loop-e-init : goal.loop-e-init
loop-e-init c = (search entries_kept, search offers_none)

pub offer-requires : goal.offer-requires
offer-requires c = let (a, _) = c.loop-e.invariant in offer_ask a c.loop-e.auto.e (omega (arith, c.loop-e-test.true))

pub loop-e-preserved : goal.loop-e-preserved
loop-e-preserved c =
    let (a, x) = c.loop-e.invariant in
    (search offered_kept, offers_step a c.loop-e.auto.e (omega (arith, c.loop-e-test.true)) x c.offer.ensures)

pub returns : goal.returns
returns c = let (a, x) = c.loop-e.invariant in offers_all a c.loop-e.auto.e c.loop-e-test.false c.fill.ensures x
