use Rattle.std.proofs.Common.{ℕ, List, ◌∙◌, sym, ap, arith}
use Rattle.std.proofs.lemmas.Result.{err_from_is_err_and}
use Rattle.lines.specs.Answers.{pieces_of}
use Rattle.text.specs.Market.{entries}
use Rattle.text.specs.Steps.{only_judged}
use Rattle.text.proofs.Edges.{judged_short, judged_all, judged_stop, judged_blank, judged_surplus, judged_edge}
use Rattle.text.proofs.entries.check.Goals as goal

pub loop-line-init : goal.loop-line-init
loop-line-init c = ap (λ (ls : List (List ℕ)). only_judged (entries c.args.size.n c.args.size.edges ls)) (sym (ap pieces_of c.into_iter-line-iterator.ensures.into_iter_gives ∙ c.lines-line-items.ensures.pieces))

pub returns-in_err-entry_of : goal.returns-in_err-entry_of
returns-in_err-entry_of c =
    let p = err_from_is_err_and c.from_residual.result c.from_residual.ensures.1 in
    rw (p.1, p.2) (judged_stop _ _ _ _ _ c.loop-line.invariant _ c.in-Some.ensures.steps.0 _ c.entry_of.ensures _ c.in_err-entry_of.was)

pub returns-then-left-eq0 : goal.returns-then-left-eq0
returns-then-left-eq0 c = judged_surplus _ _ _ _ _ c.loop-line.invariant _ c.in-Some.ensures.steps.0 _ c.entry_of.ensures _ c.in_ok-entry_of.was (sym c.is_some.ensures ∙ c.if-is_some.true) (omega arith)

pub loop-line-preserved-then-is_some : goal.loop-line-preserved-then-is_some
loop-line-preserved-then-is_some c = judged_edge _ _ _ _ _ c.loop-line.invariant _ c.in-Some.ensures.steps.0 _ c.entry_of.ensures _ c.in_ok-entry_of.was (sym c.is_some.ensures ∙ c.if-is_some.true) _ (omega arith)

pub loop-line-preserved : goal.loop-line-preserved
loop-line-preserved c = judged_blank _ _ _ _ _ c.loop-line.invariant _ c.in-Some.ensures.steps.0 _ c.entry_of.ensures _ c.in_ok-entry_of.was (sym c.is_some.ensures ∙ c.if-is_some.false)

pub returns-else-left-eq0-2 : goal.returns-else-left-eq0-2
returns-else-left-eq0-2 c = judged_short _ _ _ _ c.loop-line.invariant c.in-None.ensures.steps.0.0 c.if-left-eq0-2.false

pub returns-then-left-eq0-2 : goal.returns-then-left-eq0-2
returns-then-left-eq0-2 c = judged_all _ _ _ _ c.loop-line.invariant c.in-None.ensures.steps.0.0 c.if-left-eq0-2.true
