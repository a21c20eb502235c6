use Rattle.prune.proofs.Ties.{tied_first, tied_none, tied_second, tied_all}
use Rattle.prune.proofs.cursor.tied.Goals as goal

pub look-requires : goal.look-requires
look-requires c = rw (c.forward.ensures, c.leaving.ensures) (tied_first c.requires.1)

pub look-requires-then-look : goal.look-requires-then-look
look-requires-then-look c = rw (c.backward.ensures, c.entering.ensures) (tied_second c.requires.1 (rw (c.forward.ensures, c.leaving.ensures) at c.look.ensures))

pub returns-then-look : goal.returns-then-look
returns-then-look c = λ g a. tied_all a (rw (c.forward.ensures, c.leaving.ensures) at c.look.ensures) (rw (c.backward.ensures, c.entering.ensures) at c.look-then-look.ensures) c.if-look.true

pub returns-else-look : goal.returns-else-look
returns-else-look c = λ g a. tied_none a (rw (c.forward.ensures, c.leaving.ensures) at c.look.ensures) c.if-look.false
