use native.Mathlib.Omega.{arith}
use lib.ListN.{length}
use mathlib.Core.Bool.{true, false}
use Rattle.std.proofs.Common.{rules, tests}
use Rattle.std.proofs.lemmas.Iterator.{cases_from_all, YieldsList-from_range}
use Rattle.classes.proofs.Classing.{Passes, own_told}
use Rattle.classes.proofs.own_labels.Goals as goal

pub returns : goal.returns
returns c =
    let k = c.args.label.now in
    own_told k (length k) c.all.result
    (cases_from_all _ _ c.all.result (Passes k true) (Passes k false) c.all.ensures.ran (YieldsList-from_range 0 (length k) (length k) (cc) (omega arith)) (λ x q k. search (rules, tests)) (λ x q k. search (rules, tests)))
