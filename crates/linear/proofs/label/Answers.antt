use Rattle.std.proofs.lemmas.Result.{err_from_is_err_and}
use mathlib.Core.Path.{sym}
use Rattle.graph.proofs.Reasons.{number_some}
use Rattle.linear.specs.Promise.{call}
use Rattle.linear.proofs.Whole.{find_ask, clear_ask, done, refused}
use Rattle.linear.proofs.label.Goals as goal

pub find-requires : goal.find-requires
find-requires c = find_ask (call c.args.table.now c.args.label.now c.args.numbers.now c.args.words.now) (sym c.in_ok-refusal.ensures)

pub clear-requires : goal.clear-requires
clear-requires c = clear_ask (call c.args.table.now c.args.label.now c.args.numbers.now c.args.words.now) (sym c.in_ok-refusal.ensures) c.find.ensures

pub returns-in_err-refusal : goal.returns-in_err-refusal
returns-in_err-refusal c = let p = err_from_is_err_and c.from_residual.result c.from_residual.ensures.1 in rw (p.1, p.2) (refused (call c.args.table.now c.args.label.now c.args.numbers.now c.args.words.now) _ c.in_err-refusal.ensures (number_some _))

pub returns : goal.returns
returns c = done (call c.args.table.now c.args.label.now c.args.numbers.now c.args.words.now) (sym c.in_ok-refusal.ensures) c.find.ensures c.clear.ensures
