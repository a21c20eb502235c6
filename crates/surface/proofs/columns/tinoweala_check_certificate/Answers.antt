use Rattle.surface.specs.Told.{told}
use Rattle.surface.proofs.columns.tinoweala_check_certificate.Goals as goal

pub returns-in-Err : goal.returns-in-Err
unfolding told
returns-in-Err c = record { answer = c.check.result; promised = c.check.ensures; gives = rw (c.in-Err.is, c.from.ensures) }

pub returns-in-Ok-Failed : goal.returns-in-Ok-Failed
unfolding told
returns-in-Ok-Failed c = record { answer = c.check.result; promised = c.check.ensures; gives = rw (c.in-Ok-Failed.is, c.in-Ok-Failed.field-0-is) }

pub returns-in-Ok-Accepted : goal.returns-in-Ok-Accepted
unfolding told
returns-in-Ok-Accepted c = record { answer = c.check.result; promised = c.check.ensures; gives = rw (c.in-Ok-Accepted.is, c.in-Ok-Accepted.field-0-is) }
