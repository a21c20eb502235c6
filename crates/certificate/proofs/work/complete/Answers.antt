use Rattle.certificate.proofs.Working.{enter_ask, leave_ask, ranks_ask, complete_end}
use Rattle.certificate.proofs.work.complete.Goals as goal

pub entries-requires : goal.entries-requires
entries-requires c = enter_ask c.requires

pub entries-requires-2 : goal.entries-requires-2
entries-requires-2 c = leave_ask _ c.requires c.entries.ensures c.turned.ensures

pub ranks-requires : goal.ranks-requires
ranks-requires c = ranks_ask _ c.requires c.entries.ensures c.turned.ensures c.entries-2.ensures

pub returns : goal.returns
returns c = complete_end _ c.requires c.entries.ensures c.turned.ensures c.entries-2.ensures c.ranks.ensures

pub shape_of-w : goal.shape_of-w
shape_of-w c = (returns c).beyond.long
