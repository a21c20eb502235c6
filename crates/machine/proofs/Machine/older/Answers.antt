use Rattle.machine.proofs.Machine.older.Goals as goal

pub returns-in-Oldest : goal.returns-in-Oldest
returns-in-Oldest c = rw c.in-Oldest.is c.wrap.ensures
