use Rattle.prune.proofs.Tables.{kept_none, kept_more}
use Rattle.slices.proofs.Slicing.{cuts_none, cuts_pass, cuts_cut, cuts_step, cuts_all}
use Rattle.slices.proofs.slice.cuts.Goals as goal

pub loop-places-init : goal.loop-places-init
loop-places-init c = kept_none c.requires (λ x a. cuts_none a)

pub cut-e-requires : goal.cut-e-requires
cut-e-requires c =
    let ((x, (a, z)), f) = c.loop-places.invariant in
    let t = c.loop-places-test.true in
    (x, cuts_cut a z t (c.peel-count.ensures x (cuts_pass a z t)))

pub loop-places-preserved : goal.loop-places-preserved
loop-places-preserved c =
    let t = c.loop-places-test.true in
    kept_more c.loop-places.invariant (λ x a z. let p = c.peel-count.ensures x (cuts_pass a z t) in cuts_step a z t p (c.cut-e.ensures x (cuts_cut a z t p)))

pub returns : goal.returns
returns c = λ g a. cuts_all a (c.loop-places.invariant.1 g a) c.loop-places-test.false
