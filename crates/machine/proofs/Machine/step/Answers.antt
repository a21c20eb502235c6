use Rattle.machine.specs.Machine.{clears, hands}
use Rattle.machine.proofs.Machine.step.Goals as goal

pub returns-then-self-at : goal.returns-then-self-at
returns-then-self-at c = rw c.clear.ensures (λ g q. clears c.if-self-at.true)

pub returns-then-self : goal.returns-then-self
returns-then-self c = rw c.hand.ensures (λ g q. hands c.if-self-at.false c.if-self.true)
