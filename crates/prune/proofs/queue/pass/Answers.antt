use native.Mathlib.Omega.{arith}
use Rattle.prune.proofs.Along.{along_head, along_next}
use Rattle.prune.proofs.Tables.{kept_none, kept_more}
use Rattle.prune.proofs.Steps.{pruned_none, pruned_more}
use Rattle.prune.proofs.Rounds.{pass_state, pass_none, pass_end, pass_next, pass_examine, pass_step}
use Rattle.prune.proofs.queue.pass.Goals as goal

pub loop-i-init : goal.loop-i-init
loop-i-init c = (along_head c.requires.1.chain, kept_none c.requires (λ g a. (pruned_none (pass_state a), pass_none a)))

pub examine-k-requires : goal.examine-k-requires
examine-k-requires c =
    let (l, ((g, (a, (z, t))), f)) = c.loop-i.invariant in
    rw (c.forward-forward.ensures, c.backward-backward.ensures, c.order-order.ensures) (g, pass_examine a l z c.loop-i-test.true)

pub loop-i-preserved : goal.loop-i-preserved
loop-i-preserved c =
    let (l, k) = c.loop-i.invariant in
    let ((g, (a, (z, t))), f) = k in
    let h = c.loop-i-test.true in
    let y = rw (c.forward-forward.ensures, c.backward-backward.ensures, c.order-order.ensures) at c.examine-k.ensures in
    rw (c.chains-chains.ensures, pass_next a l z h) (
      along_next a.chain l h,
      kept_more k (λ g a (p, t). let e = y g (pass_examine a l p h) in (pruned_more p e.pruned, pass_step a l p h e t)),
    )

pub returns : goal.returns
returns c = λ g a. let (p, t) = c.loop-i.invariant.1.1 g a in record { pruned = p; standing = pass_end a (omega arith) t }
