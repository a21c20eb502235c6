use Rattle.labels.proofs.Bytes.{lines_room, lines_step, lines_end}
use Rattle.labels.proofs.put.put_labels.Goals as goal

pub put_label-i-requires : goal.put_label-i-requires
put_label-i-requires c = search lines_room

pub loop-l-preserved : goal.loop-l-preserved
loop-l-preserved c = search lines_step

pub returns : goal.returns
returns c = search lines_end
