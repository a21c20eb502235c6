use Rattle.surface_c.proofs.groups.tinoweala_decompose.Goals as goal

pub returns : goal.returns
returns c = c.tinoweala_decompose.ensures
