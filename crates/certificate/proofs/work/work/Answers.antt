use mathlib.Core.Path.{refl}
use Rattle.certificate.proofs.Working.{work_none, find_ask, work_stop, complete_ask, work_end}
use Rattle.certificate.proofs.work.work.Goals as goal

pub returns-then-not-own_labels : goal.returns-then-not-own_labels
returns-then-not-own_labels c = work_none c.requires c.if-not-own_labels.ensures refl

pub find-requires : goal.find-requires
find-requires c = find_ask c.requires c.if-not-own_labels.ensures refl

pub returns-then-not-find : goal.returns-then-not-find
returns-then-not-find c = work_stop c.requires c.if-not-own_labels.ensures refl c.if-not-find.ensures refl

pub shape_of-w-then-not-find : goal.shape_of-w-then-not-find
shape_of-w-then-not-find c = (returns-then-not-find c).beyond.long

pub complete-requires : goal.complete-requires
complete-requires c = complete_ask c.requires c.if-not-own_labels.ensures refl c.if-not-find.ensures refl

pub returns : goal.returns
returns c = work_end c.requires c.if-not-own_labels.ensures refl c.if-not-find.ensures refl c.complete.ensures

pub shape_of-w : goal.shape_of-w
shape_of-w c = (returns c).beyond.long
