use Rattle.graph.specs.Arrows.{back, sized}
use Rattle.split.proofs.Splitting.{first_ask, second_ask, label_ask, split_all}
use Rattle.split.proofs.split.Goals as goal

pub search-requires : goal.search-requires
search-requires c = simp (c.forward-forward.ensures, c.backward-backward.ensures) (sized c.args.at.m c.requires.0, first_ask c.requires.1)

pub search-s-requires : goal.search-s-requires
search-s-requires c =
    let g = sized c.args.at.m c.requires.0 in
    let y = rw c.forward-forward.ensures at c.search.ensures in
    simp (c.forward-forward.ensures, c.backward-backward.ensures) (back g, second_ask c.requires.1 (y g (first_ask c.requires.1)))

pub label-requires : goal.label-requires
label-requires c =
    let g = sized c.args.at.m c.requires.0 in
    let y = rw c.forward-forward.ensures at c.search.ensures in
    let z = rw c.backward-backward.ensures at c.search-s.ensures in
    let f = y g (first_ask c.requires.1) in
    label_ask c.requires.1 f (z (back g) (second_ask c.requires.1 f))

pub returns : goal.returns
returns c =
    let y = rw c.forward-forward.ensures at c.search.ensures in
    let z = rw c.backward-backward.ensures at c.search-s.ensures in
    let l = c.label.ensures in
    λ e a.
    let g = sized c.args.at.m e in
    let f = y g (first_ask a) in
    split_all a f (z (back g) (second_ask a f)) l.lowest l.named
