use Rattle.prune.proofs.Core.{drain_ask, trim_all}
use Rattle.prune.proofs.prune.Goals as goal

pub drain-requires : goal.drain-requires
drain-requires c =
    let (g, a) = c.requires in
    (g, drain_ask (c.pass-k.ensures g a))

pub returns : goal.returns
returns c =
    let p = c.pass-k.ensures in
    λ g a. trim_all (p g a) (c.drain.ensures g (drain_ask (p g a)))
