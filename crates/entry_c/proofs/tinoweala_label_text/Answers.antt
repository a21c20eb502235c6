use Rattle.std.proofs.Math.Facts.{to_z-of_z}
use Rattle.entry_c.proofs.tinoweala_label_text.Goals as goal

pub returns : goal.returns
returns c = rw (to_z-of_z (record { sfits = c.tinoweala_label_text.type_inv })) c.tinoweala_label_text.ensures
