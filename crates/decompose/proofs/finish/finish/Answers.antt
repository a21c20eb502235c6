use mathlib.Core.Path.{refl}
use Rattle.decompose.proofs.finish.finish.Goals as goal

pub returns : goal.returns
returns c = record { memory = record { copied = c.copy.ensures; cleared = c.clear.ensures }; draws = refl }
