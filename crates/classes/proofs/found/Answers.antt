use Prim.Native.Nat.{◌≤◌, ◌<◌}
use mathlib.Core.Path.{refl}
use Rattle.std.proofs.Common.{rules, tests}
use Rattle.std.proofs.lemmas.Iterator.{cases_from_all, YieldsList-from_slice}
use Rattle.classes.proofs.Classing.{found_told}
use Rattle.classes.proofs.found.Goals as goal

pub returns : goal.returns
returns c =
    let n = c.args.along.n in
    let xs = c.iter.result.rest.now in
    found_told n c.args.along.base c.args.w.now xs c.iter.ensures.rest c.requires c.all.result
    (cases_from_all _ _ c.all.result (λ y. y ≤ n) (λ y. n < y) c.all.ensures.ran (YieldsList-from_slice xs refl) (λ x q k. search (rules, tests)) (λ x q k. search (rules, tests)))
