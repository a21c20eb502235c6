use Rattle.sweep.proofs.Alike.{alike_back, alike_of, ready_alike, drawn_alike}
use Rattle.sweep.proofs.drawn.sweep.Goals as goal

pub run-requires : goal.run-requires
run-requires c =
    let k = alike_of c.args.slicing _ c.of-method.ensures in
    (c.requires.0, record { ready = ready_alike k c.requires.1.sweep.ready; marks = c.mark-left.ensures })

pub returns : goal.returns
returns c =
    let k = alike_of c.args.slicing _ c.of-method.ensures in
    λ e a. drawn_alike (alike_back k) (c.run.ensures e (record { ready = ready_alike k a.sweep.ready; marks = c.mark-left.ensures }))
