use Rattle.std.proofs.Common.{sym, ◌∙◌}
use Rattle.std.proofs.lemmas.Bool.{eqb-true, eqb-false}
use Rattle.sweep.proofs.ByKind.{kind_chain, lent_ask, kind_drawn}
use Rattle.sweep.proofs.sweep.Goals as goal

pub sweep-requires : goal.sweep-requires
sweep-requires c = (c.requires.0, lent_ask c.requires.1)

pub returns-then-draws : goal.returns-then-draws
returns-then-draws c = λ e a. kind_drawn a (eqb-true c.args.chooser.kind 1 (sym c.draws.ensures ∙ c.if-draws.true)) (c.sweep.ensures e (lent_ask a))

pub returns : goal.returns
returns c = λ e a. kind_chain a (eqb-false c.args.chooser.kind 1 (sym c.draws.ensures ∙ c.if-draws.false)) (c.sweep-t.ensures e a.sweep)
