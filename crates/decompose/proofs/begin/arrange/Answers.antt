use Rattle.decompose.proofs.begin.arrange.Goals as goal

pub returns-in-Listed : goal.returns-in-Listed
returns-in-Listed c = rw c.in-Listed.is c.arrange.ensures
