use mathlib.Core.Path.{◌≡◌}
use Rattle.ranks.proofs.Freeing.{frees_none, free_ask, frees_step}
use native.Mathlib.Omega.{arith}
use Rattle.ranks.proofs.frees.Goals as goal

pub loop-v-init : goal.loop-v-init
loop-v-init c = search frees_none

pub free-k-requires : goal.free-k-requires
free-k-requires c = search free_ask

pub loop-v-preserved : goal.loop-v-preserved
loop-v-preserved c = search frees_step

pub shape_of-w : goal.shape_of-w
shape_of-w c = c.loop-v.invariant.framed.long

pub returns : goal.returns
returns c =
    let e : c.loop-v.v ≡ c.args.at.n = omega arith in
    rw e at c.loop-v.invariant
