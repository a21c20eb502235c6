use Rattle.prune.proofs.Goes.{examine_skip, tied_ask, examine_stay, examine_go}
use Rattle.prune.proofs.queue.examine.Goals as goal
use Rattle.prune.proofs.queue.examine.Goals.{then-w-at-via-then-w-at, then-w-at-via-else-w-at+then-tied}

pub returns-then-w-at : goal.returns-then-w-at
returns-then-w-at c =
    λ g a. elim c.then-w-at.branch [
      | then-w-at-via-then-w-at w ↦ rw w.w-is (examine_skip a w.if-w-at.true)
      | then-w-at-via-else-w-at+then-tied w ↦ rw w.w-is (examine_stay a w.if-w-at.false (w.tied.ensures g (tied_ask a w.if-w-at.false)) w.if-tied.true)
    ]

pub returns : goal.returns
returns c = λ g a. examine_go a c.if-w-at.false (c.tied.ensures g (tied_ask a c.if-w-at.false)) c.if-tied.false
