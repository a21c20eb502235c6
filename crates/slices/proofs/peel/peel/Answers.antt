use Rattle.slices.proofs.Draining.{pass_drain, pass_peeled}
use Rattle.slices.proofs.peel.peel.Goals as goal

pub drain-requires : goal.drain-requires
drain-requires c =
    let (x, a) = c.requires in
    (x, pass_drain a (c.pass-count.ensures x a))

pub returns : goal.returns
returns c = λ g a. let p = c.pass-count.ensures g a in pass_peeled a p (c.drain.ensures g (pass_drain a p))
