use Rattle.surface.specs.Told.{told}
use Rattle.surface.proofs.groups.tinoweala_decompose.Goals as goal

pub returns-in-Err : goal.returns-in-Err
unfolding told
returns-in-Err c = record { answer = c.decompose.result; promised = c.decompose.ensures; gives = rw (c.in-Err.is, c.from.ensures) }

pub returns-in-Ok : goal.returns-in-Ok
unfolding told
returns-in-Ok c = record { answer = c.decompose.result; promised = c.decompose.ensures; gives = rw c.in-Ok.is }
