use Rattle.std.proofs.Common.{rules}
use Rattle.moves.proofs.segments.lowest.Goals as goal

pub returns : goal.returns
returns c = search rules
