use Rattle.prune.proofs.Rounds.{beside_first, beside_second, beside_all}
use Rattle.prune.proofs.queue.beside.Goals as goal

pub around-k1-requires : goal.around-k1-requires
around-k1-requires c =
    let (g, a) = c.requires in
    rw c.forward-forward.ensures (g, beside_first a)

pub around-requires : goal.around-requires
around-requires c =
    let (g, a) = c.requires in
    let y = rw c.forward-forward.ensures at c.around-k1.ensures in
    simp (c.forward-forward.ensures, c.backward-backward.ensures) (g, beside_second a (y g (beside_first a)))

pub returns : goal.returns
returns c =
    let y = rw c.forward-forward.ensures at c.around-k1.ensures in
    let z = rw c.backward-backward.ensures at c.around.ensures in
    λ g a. beside_all a (y g (beside_first a)) (z g (beside_second a (y g (beside_first a))))
