use mathlib.Core.Path.{refl}
use Rattle.std.proofs.Common.{arith}
use Rattle.std.proofs.lemmas.Bool.{ltb-true, ltb-false}
use Rattle.prune.proofs.cursor.look.Goals as goal

pub returns : goal.returns
returns c =
    let most = c.find-i.ensures.most in
    record { place = c.find-i.result; found = c.find-i.ensures; store = refl; none = λ e. omega (arith, ltb-false _ _ e); some = ltb-true _ _ }
