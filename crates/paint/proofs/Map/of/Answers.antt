use borrow.Author.Tests.{eq-eqb, ne_eqb}
use Rattle.paint.specs.Colours.{paint}
use Rattle.paint.proofs.Map.of.Goals as goal

pub returns-then-y-self : goal.returns-then-y-self
unfolding paint
returns-then-y-self c = rw (eq-eqb c.args.y c.args.self.a c.if-y-self.true)

pub returns-then-y-self-2 : goal.returns-then-y-self-2
unfolding paint
returns-then-y-self-2 c = rw (ne_eqb c.args.y c.args.self.a c.if-y-self.false, eq-eqb c.args.y c.args.self.c c.if-y-self-2.true)

pub returns-else-y-self-2 : goal.returns-else-y-self-2
unfolding paint
returns-else-y-self-2 c = rw (ne_eqb c.args.y c.args.self.a c.if-y-self.false, ne_eqb c.args.y c.args.self.c c.if-y-self-2.false)
