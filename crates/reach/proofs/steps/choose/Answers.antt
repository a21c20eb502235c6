use Rattle.reach.proofs.Between.{chosen}
use Rattle.reach.proofs.steps.choose.Goals as goal

pub returns : goal.returns
returns c = chosen c.requires c.zero_words.ensures c.join.ensures c.meet.ensures c.clip.ensures
