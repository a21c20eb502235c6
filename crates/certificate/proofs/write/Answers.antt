use mathlib.Core.Path.{refl}
use native.Mathlib.Omega.{arith}
use Rattle.std.proofs.lemmas.Result.{err_from_is_err_and}
use Rattle.graph.proofs.Reasons.{number_some}
use Rattle.certificate.proofs.Writing.{refused_promise, work_ask, clear_ask, hand_ask, wrong_promise, done_promise}
use Rattle.certificate.proofs.write.Goals as goal

pub returns-in_err-refusal : goal.returns-in_err-refusal
returns-in_err-refusal c = let p = err_from_is_err_and c.from_residual.result c.from_residual.ensures.1 in rw (p.1, p.2) (refused_promise _ c.in_err-refusal.ensures (number_some _))

pub work-requires : goal.work-requires
work-requires c = work_ask _ c.in_ok-refusal.ensures refl

pub clear-requires : goal.clear-requires
clear-requires c = clear_ask _ c.in_ok-refusal.ensures refl c.work.ensures.beyond.long (omega arith) (omega arith)

pub returns-then-not-work : goal.returns-then-not-work
returns-then-not-work c = wrong_promise _ c.in_ok-refusal.ensures refl c.if-not-work.ensures refl c.clear.ensures

pub hand-requires : goal.hand-requires
hand-requires c = hand_ask _ c.in_ok-refusal.ensures refl c.work.ensures.beyond.long

pub clear-requires-2 : goal.clear-requires-2
clear-requires-2 c = clear_ask _ c.in_ok-refusal.ensures refl c.work.ensures.beyond.long (omega arith) (omega arith)

pub returns : goal.returns
returns c = done_promise _ c.in_ok-refusal.ensures refl c.if-not-work.ensures refl c.hand.ensures c.clear-2.ensures
