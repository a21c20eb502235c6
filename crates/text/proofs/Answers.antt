-- What the reader's answer says of the reading.
use Rattle.std.proofs.Common.{ℕ, ◌≡◌, refl, length, Ok, Err, ap, Result as Answer}
use Rattle.graph.specs.declared.refusal.Refusal.{Refusal}
use Rattle.graph.specs.Reasons.{number_of}
use Rattle.graph.proofs.Reasons.{number_one}
use Rattle.text.specs.declared.Size.{Size}
use Rattle.text.specs.Market.{Result, refused, done, as_reading, Table}
use Rattle.text.specs.Promise.{answer_to}

-- two answers that come to one reading are equal
pub reading_one : {A : Type 0} (a b : Answer A Refusal) → as_reading a ≡ as_reading b → a ≡ b
reading_one (Ok x) (Ok y) e = cc
reading_one (Ok x) (Err s) e = cc
reading_one (Err r) (Ok y) e = cc
reading_one (Err r) (Err s) e = let k : number_of r ≡ number_of s = cc in ap Err (number_one r s k)

pub refused_is : (x : Result Table) (k : ℕ) → refused k ≡ answer_to x → x ≡ refused k
unfolding answer_to
refused_is (refused j) k e = cc
refused_is (done t) k e = cc

pub record IsDone (x : Result Table) (s : Size) : Type 0 where
  pub table : Table
  pub is : x ≡ done table
  pub vertices : s.n ≡ table.n
  pub count : s.edges ≡ length table.edges

pub done_is : (x : Result Table) (s : Size) → done s ≡ answer_to x → IsDone x s
unfolding answer_to
done_is (refused j) s e = cc
done_is (done t) s e =
    let q : s ≡ record { n = t.n; edges = length t.edges } = cc in
    record { table = t; is = refl; vertices = ap (λ (s : Size). s.n) q; count = ap (λ (s : Size). s.edges) q }
