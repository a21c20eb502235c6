use Rattle.labels.proofs.Outcome.{too_many, too_short, all_written}
use Rattle.labels.proofs.write.Goals as goal

pub returns-then-label-gt-MOST_VERTICES : goal.returns-then-label-gt-MOST_VERTICES
returns-then-label-gt-MOST_VERTICES c = search too_many

pub returns-then-out-bytes : goal.returns-then-out-bytes
returns-then-out-bytes c = search too_short

pub returns : goal.returns
returns c = search all_written
