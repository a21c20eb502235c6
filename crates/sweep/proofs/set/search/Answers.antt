use Rattle.sweep.proofs.Drawing.{find_erase, find_all}
use Rattle.sweep.proofs.set.search.Goals as goal

pub search-s-requires : goal.search-s-requires
search-s-requires c = (c.requires.0, c.requires.1.start)

pub erase-left-requires : goal.erase-left-requires
erase-left-requires c = find_erase c.requires.1 (c.search-s.ensures c.requires.0 c.requires.1.start)

pub returns : goal.returns
returns c = λ e a. find_all a (c.search-s.ensures e a.start) c.erase-left.ensures
