use Rattle.labels.proofs.Bytes.{file_total}
use Rattle.labels.proofs.file_length.Goals as goal

pub returns : goal.returns
returns c = search file_total
