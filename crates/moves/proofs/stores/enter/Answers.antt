use mathlib.Core.Path.{refl}
use Rattle.moves.proofs.stores.enter.Goals as goal

pub returns : goal.returns
returns c = (refl, refl, refl)
