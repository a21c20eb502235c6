use Rattle.std.proofs.Common.{arith}
use Rattle.graph.specs.Arrows.{back, sized}
use Rattle.sweep.proofs.Drawing.{pick_room, first_find, second_find, pick_label, pick_split}
use Rattle.sweep.proofs.drawn.split.Goals as goal

pub overflow_cast-f : goal.overflow_cast-f
overflow_cast-f c = omega (arith, pick_room c.requires.1)

pub overflow_add-reaching : goal.overflow_add-reaching
overflow_add-reaching c = omega (arith, pick_room c.requires.1)

pub overflow_add-reaching-2 : goal.overflow_add-reaching-2
overflow_add-reaching-2 c = omega (arith, pick_room c.requires.1)

pub overflow_add-f : goal.overflow_add-f
overflow_add-f c = omega (arith, pick_room c.requires.1)

pub overflow_add-result : goal.overflow_add-result
overflow_add-result c = omega (arith, pick_room c.requires.1)

pub search-s-requires : goal.search-s-requires
search-s-requires c = rw c.forward.ensures (sized c.args.at.m c.requires.0, first_find c.requires.1)

pub search-t-requires : goal.search-t-requires
search-t-requires c =
    let g = sized c.args.at.m c.requires.0 in
    let f = (rw c.forward.ensures at c.search-s.ensures) g (first_find c.requires.1) in
    rw c.backward.ensures (back g, second_find c.requires.1 f)

pub label-requires : goal.label-requires
label-requires c =
    let g = sized c.args.at.m c.requires.0 in
    let f = (rw c.forward.ensures at c.search-s.ensures) g (first_find c.requires.1) in
    pick_label c.requires.1 f ((rw c.backward.ensures at c.search-t.ensures) (back g) (second_find c.requires.1 f))

pub returns-clause-picked : goal.returns-clause-picked
returns-clause-picked c =
    λ e a.
    let g = sized c.args.at.m e in
    let f = (rw c.forward.ensures at c.search-s.ensures) g (first_find a) in
    let s = (rw c.backward.ensures at c.search-t.ensures) (back g) (second_find a f) in
    pick_split a f s (λ o. omega arith) c.label.ensures
