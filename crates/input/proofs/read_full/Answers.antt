use Rattle.std.proofs.Common.{arith}
use Rattle.input.proofs.read_full.Goals as goal

pub returns-then-n-eq0 : goal.returns-then-n-eq0
returns-then-n-eq0 g c = omega arith
