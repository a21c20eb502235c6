use Rattle.sweep.proofs.drawn.take.Goals as goal

pub split-requires : goal.split-requires
split-requires c = rw c.in-Split.is at c.requires

pub returns-in-Split-clause-picked : goal.returns-in-Split-clause-picked
returns-in-Split-clause-picked c = rw c.in-Split.is c.split.ensures.picked

pub slice-requires : goal.slice-requires
slice-requires c = rw c.in-Slice.is at c.requires

pub returns-in-Slice-clause-picked : goal.returns-in-Slice-clause-picked
returns-in-Slice-clause-picked c = rw c.in-Slice.is c.slice.ensures.picked
