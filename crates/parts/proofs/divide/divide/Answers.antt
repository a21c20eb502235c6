use Rattle.sweep.proofs.Alike.{alike_back, alike_of}
use Rattle.parts.proofs.Dividing.{made_alike, divide_make, divide_sweep, divide_share, divide_all}
use Rattle.parts.proofs.divide.divide.Goals as goal

pub make-requires : goal.make-requires
make-requires c = rw c.order.ensures (c.requires.0, divide_make c.requires.1)

pub sweep-outcome-requires : goal.sweep-outcome-requires
sweep-outcome-requires c =
    let k = alike_back (alike_of c.args.slicing _ c.of.ensures) in
    let m = rw c.order.ensures at c.make.ensures in
    rw c.order.ensures (c.requires.0, divide_sweep c.requires.1 (made_alike k (m c.requires.0 (divide_make c.requires.1))))

pub share-children-requires : goal.share-children-requires
share-children-requires c =
    let k = alike_back (alike_of c.args.slicing _ c.of.ensures) in
    let m = rw c.order.ensures at c.make.ensures in
    let s = rw c.order.ensures at c.sweep-outcome.ensures in
    let z = made_alike k (m c.requires.0 (divide_make c.requires.1)) in
    divide_share c.requires.1 z (s c.requires.0 (divide_sweep c.requires.1 z))

pub returns : goal.returns
returns c =
    let k = alike_back (alike_of c.args.slicing _ c.of.ensures) in
    let m = rw c.order.ensures at c.make.ensures in
    let s = rw c.order.ensures at c.sweep-outcome.ensures in
    λ e a.
    let z = made_alike k (m e (divide_make a)) in
    divide_all a z (s e (divide_sweep a z)) c.share-children.ensures
