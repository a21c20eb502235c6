use Rattle.std.proofs.Common.{ℕ, ◌∙◌, sym, ap}
use Rattle.std.proofs.lemmas.Result.{err_from_is_err_and}
use Rattle.lines.specs.Pieces.{split}
use Rattle.text.proofs.Head.{head_none, head_first, head_missing, head_refused, head_is}
use Rattle.text.proofs.header.head_of.Goals as goal

pub returns-in_default : goal.returns-in_default
returns-in_default c = head_none _ _ (sym c.lines-lines.ensures.pieces ∙ c.in_default.ensures.steps.0.0)

pub returns-then-ne : goal.returns-then-ne
returns-then-ne c = head_first _ _ _ _ (sym c.lines-lines.ensures.pieces ∙ c.in-Some.ensures.steps.0) _ c.ne.ensures c.if-ne.true

pub returns-in_default-size_line : goal.returns-in_default-size_line
returns-in_default-size_line c =
    head_missing _ _ _ _ (sym c.lines-lines.ensures.pieces ∙ c.in-Some.ensures.steps.0) _ c.ne.ensures c.if-ne.false _ _ c.size_line.ensures.first c.in_default-size_line.is

pub returns-in_err-size : goal.returns-in_err-size
returns-in_err-size c =
    let p = err_from_is_err_and c.from_residual.result c.from_residual.ensures.1 in
    rw (p.1, p.2)
    (head_refused _ _ _ _ (sym c.lines-lines.ensures.pieces ∙ c.in-Some.ensures.steps.0) _ c.ne.ensures c.if-ne.false _ _ c.size_line.ensures.first _ c.in-Some-size_line.is _ c.size_of.ensures _ c.in_err-size.was)

pub returns : goal.returns
returns c =
    head_is _ _ _ _ (sym c.lines-lines.ensures.pieces ∙ c.in-Some.ensures.steps.0) _ c.ne.ensures c.if-ne.false _ _ c.size_line.ensures.first _ c.in-Some-size_line.is _ c.size_of.ensures _ c.in_ok-size.was
    (ap (λ (k : ℕ). split k c.size_line.new.lines.rest.now) (c.size_line.ensures.stop ∙ c.in-Some.ensures.steps.1 ∙ c.lines-lines.ensures.stop))
