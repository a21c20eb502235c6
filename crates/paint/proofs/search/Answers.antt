use Rattle.paint.proofs.Spreading.{start_visit, start_ask, start_searched}
use Rattle.paint.proofs.search.Goals as goal

pub visit-k-requires : goal.visit-k-requires
visit-k-requires c = let a = c.requires.1 in start_visit a.ask a.start

pub spread-requires : goal.spread-requires
spread-requires c =
    let (g, a) = c.requires in
    (g, start_ask a.ask a.start c.visit-k.ensures)

pub returns : goal.returns
returns c =
    let v = c.visit-k.ensures in
    λ g a. start_searched a.ask a.start v (c.spread.ensures g (start_ask a.ask a.start v))
