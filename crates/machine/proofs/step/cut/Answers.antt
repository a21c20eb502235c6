use native.Mathlib.Omega.{arith}
use Rattle.machine.proofs.Cutting.{cut_ask}
use Rattle.machine.proofs.step.cut.Goals as goal

pub divide-requires : goal.divide-requires
divide-requires c = let (g, a) = c.requires in (g, cut_ask (λ e. omega arith) a)

pub returns : goal.returns
returns c = λ g a. c.divide.ensures g (cut_ask (λ e. omega arith) a)
