-- Two outcomes that the promise allows are equal: the answer and all memory lent.
use Prim.Native.Nat.{ℕ}
use mathlib.Core.Path.{◌≡◌, sym, ap, ◌∙◌}
use mathlib.Core.Bool.{Bool, true, false}
use mathlib.Core.List.{List, ◌++◌}
use lib.ListN.{drop}
use Rattle.graph.specs.Graph.{Graph}
use Rattle.graph.specs.Limits.{words_needed}
use Rattle.graph.specs.Paths.{walk}
use Rattle.memory.proofs.Memory.{zeroed_one}
use Rattle.std.specs.Prelude.{Ok, Err}
use Rattle.graph.proofs.Reasons.{number_one}
use Rattle.graph.specs.Reasons.{number_of}
use Rattle.paths.specs.Promise.{Call, numbers_of, Answer, after_search, Left, PromiseOn}

left_one : (b : Bool) (k : ℕ) (w x y : List ℕ) → Left b k w x → Left b k w y → x ≡ y
left_one true k w x y p q = zeroed_one p q
left_one false k w x y p q = p ∙ sym q

pub path_one : {k : ℕ} {g : Graph} (c : Call) (r w x r' w' x' : List ℕ) (a a' : Answer) → PromiseOn k g c r w x a → PromiseOn k g c r' w' x' a'
    → (a ≡ a') × (r ≡ r') × (w ≡ w') × (x ≡ x')
path_one {g = g} c r w x r' w' x' (Ok d) (Ok d') p q =
    let y = p.gives in
    let z = q.gives in
    let e : d ≡ d' = y.shortest ∙ sym z.shortest in (
      ap Ok e,
      y.written ∙ ap (λ (d : ℕ). walk g c.u d c.v ++ drop d c.room) e ∙ sym z.written,
      zeroed_one y.numbers_left z.numbers_left,
      zeroed_one y.words_left z.words_left,
    )
path_one c r w x r' w' x' (Ok d) (Err k) p q = absurd (q.gives.refused (q.refusal ∙ sym p.refusal))
path_one c r w x r' w' x' (Err k) (Ok d) p q = absurd (p.gives.refused (p.refusal ∙ sym q.refusal))
path_one c r w x r' w' x' (Err k) (Err k') p q =
    let y = p.gives in
    let z = q.gives in
    let e : number_of k ≡ number_of k' = p.refusal ∙ sym q.refusal in
    let m : Left (after_search (number_of k)) (numbers_of c) c.numbers w' = rw e z.numbers_left in
    let n : Left (after_search (number_of k)) (words_needed c.n) c.words x' = rw e z.words_left in (
      ap Err (number_one k k' e),
      y.room_same ∙ sym z.room_same,
      left_one (after_search (number_of k)) (numbers_of c) c.numbers w w' y.numbers_left m,
      left_one (after_search (number_of k)) (words_needed c.n) c.words x x' y.words_left n,
    )
