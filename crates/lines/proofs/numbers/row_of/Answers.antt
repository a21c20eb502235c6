use Rattle.std.proofs.Common.{◌∙◌, sym, ap}
use Rattle.lines.specs.Answers.{pieces_of}
use Rattle.lines.proofs.Rows.{upto_none, upto_few, upto_empty, upto_end, upto_stop, upto_step, row_long}
use Rattle.lines.proofs.numbers.row_of.Goals as goal

pub returns-then-line-gt-LONGEST_LINE : goal.returns-then-line-gt-LONGEST_LINE
returns-then-line-gt-LONGEST_LINE c = search row_long

pub loop-word-init : goal.loop-word-init
loop-word-init c = upto_none _ _ (ap pieces_of c.into_iter-word-iterator.ensures.into_iter_gives ∙ c.new-word-items.ensures.pieces)

pub and-found-requires : goal.and-found-requires
and-found-requires c = search upto_few

pub returns-in_err-number_of : goal.returns-in_err-number_of
returns-in_err-number_of c =
    c.from_residual.ensures ∙ upto_stop _ c.if-line-gt-LONGEST_LINE.false _ _ c.loop-word.invariant _ _ c.in-Some.ensures.steps.0 (sym c.is_empty.ensures ∙ c.if-not-is_empty.true) _ c.number_of.ensures c.in_err-number_of.was

pub loop-word-preserved-then-not-is_empty : goal.loop-word-preserved-then-not-is_empty
loop-word-preserved-then-not-is_empty c =
    upto_step _ c.if-line-gt-LONGEST_LINE.false _ _ c.loop-word.invariant _ _ c.in-Some.ensures.steps.0 (sym c.is_empty.ensures ∙ c.if-not-is_empty.true) _ c.number_of.ensures _ c.in_ok-number_of.was _ c.and-found.ensures

pub loop-word-preserved : goal.loop-word-preserved
loop-word-preserved c = upto_empty _ c.if-line-gt-LONGEST_LINE.false _ _ c.loop-word.invariant _ _ c.in-Some.ensures.steps.0 (sym c.is_empty.ensures ∙ c.if-not-is_empty.false)

pub returns : goal.returns
returns c = upto_end _ c.if-line-gt-LONGEST_LINE.false _ _ c.loop-word.invariant c.in-None.ensures.steps.0.0
