use Rattle.labels.proofs.Bytes.{Digiting}
use Rattle.labels.proofs.put.put_number.Given as goal

abbrev pub invariant-loop-place : goal.invariant-loop-place
invariant-loop-place l = Digiting l.x l.initial.place-items 0 l.power l.place-index l.place-items
