use Rattle.entry.proofs.Plain.{plain_labels}
use Rattle.entry.proofs.components.labelled.Goals as goal

pub returns : goal.returns
returns c = search plain_labels
