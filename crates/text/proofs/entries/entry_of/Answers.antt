use Rattle.text.proofs.Edges.{inside_low, entry_is_faulty, entry_blank, entry_other, entry_first, entry_second, entry_edge}
use Rattle.text.proofs.entries.entry_of.Goals as goal
use Rattle.text.proofs.entries.entry_of.Goals.{else-found-eq2-via-then-found-eq2+then-inside+else-inside-2, else-found-eq2-via-then-found-eq2+else-inside, else-found-eq2-via-else-found-eq2}

pub returns-in_default : goal.returns-in_default
returns-in_default c = search entry_is_faulty

pub returns-then-found-eq0 : goal.returns-then-found-eq0
returns-then-found-eq0 c = search entry_blank

pub overflow_sub-result : goal.overflow_sub-result
overflow_sub-result c = inside_low _ _ _ c.inside.ensures c.if-inside.true

pub overflow_sub-result-then-inside-2 : goal.overflow_sub-result-then-inside-2
overflow_sub-result-then-inside-2 c = inside_low _ _ _ c.inside-then-inside.ensures c.if-inside-2.true

pub returns-then-inside-2 : goal.returns-then-inside-2
returns-then-inside-2 c = entry_edge _ _ _ c.row_of.ensures _ c.in-Some.is c.if-found-eq2.true _ c.inside.ensures c.if-inside.true _ c.inside-then-inside.ensures c.if-inside-2.true

pub returns-else-found-eq2 : goal.returns-else-found-eq2
returns-else-found-eq2 c =
    elim c.else-found-eq2.branch [
      | else-found-eq2-via-then-found-eq2+then-inside+else-inside-2 w ↦
          entry_second _ _ _ c.row_of.ensures _ c.in-Some.is w.if-found-eq2.true _ w.inside.ensures w.if-inside.true _ w.inside-then-inside.ensures w.if-inside-2.false
      | else-found-eq2-via-then-found-eq2+else-inside w ↦ entry_first _ _ _ c.row_of.ensures _ c.in-Some.is w.if-found-eq2.true _ w.inside.ensures w.if-inside.false
      | else-found-eq2-via-else-found-eq2 w ↦ entry_other _ _ _ c.row_of.ensures _ c.in-Some.is c.if-found-eq0.false w.if-found-eq2.false
    ]
