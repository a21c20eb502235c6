-- Two outcomes that the promise of a function for C allows are equal: result, values and all memory lent.
use Prim.Native.Nat.{ℕ}
use mathlib.Core.Path.{◌≡◌}
use mathlib.Core.Bool.{Bool}
use mathlib.Core.List.{List}
use Rattle.reach.specs.Search as reach
use Rattle.reach.proofs.Unique.{search_one}
use Rattle.trim.specs.Promise as trim
use Rattle.trim.proofs.Unique.{trim_one}
use Rattle.paths.specs.Promise as paths
use Rattle.paths.proofs.Unique.{path_one}
use Rattle.decompose.specs.Promise as decompose
use Rattle.decompose.proofs.Unique.{draws_of, decompose_one, decompose_still}
use Rattle.checker.specs.Promise as checker
use Rattle.checker.proofs.Unique.{check_one}
use Rattle.summary.specs.Promise as summary
use Rattle.summary.proofs.Unique.{summary_one}
use Rattle.text.specs.Promise as text
use Rattle.text.proofs.Unique.{read_one}
use Rattle.labels.proofs.Unique.{write_one}
use Rattle.surface.specs.Search.{Searched}
use Rattle.surface.specs.Trim.{Trimmed}
use Rattle.surface.specs.Path.{Walked}
use Rattle.surface.specs.Decompose.{Decomposed}
use Rattle.surface.specs.Check.{Checked}
use Rattle.surface.specs.Summary.{Summed}
use Rattle.surface.specs.Read.{Read}
use Rattle.surface.specs.Labels.{Written}

pub searched_one : (c : reach.Call) (b : Bool) (v e : ℕ) (r w ws r' w' ws' : List ℕ) (out out' : ℕ × ℕ × ℕ)
    → Searched c b v e r w ws out → Searched c b v e r' w' ws' out' → (out ≡ out') × (r ≡ r') × (w ≡ w') × (ws ≡ ws')
searched_one c b v e r w ws r' w' ws' out out' p q =
    let (a, s, t, u) = search_one c b r w ws r' w' ws' p.answer q.answer p.promised q.promised in
    let x = p.gives in
    let y = q.gives in
    (cc, s, t, u)

pub trimmed_one : (c : trim.Call) (v : ℕ) (r w ws r' w' ws' : List ℕ) (out out' : ℕ × ℕ)
    → Trimmed c v r w ws out → Trimmed c v r' w' ws' out' → (out ≡ out') × (r ≡ r') × (w ≡ w') × (ws ≡ ws')
trimmed_one c v r w ws r' w' ws' out out' p q =
    let (a, s, t, u) = trim_one c r w ws r' w' ws' p.answer q.answer p.promised q.promised in
    let x = p.gives in
    let y = q.gives in
    (cc, s, t, u)

pub walked_one : (c : paths.Call) (d : ℕ) (r w ws r' w' ws' : List ℕ) (out out' : ℕ × ℕ)
    → Walked c d r w ws out → Walked c d r' w' ws' out' → (out ≡ out') × (r ≡ r') × (w ≡ w') × (ws ≡ ws')
walked_one c d r w ws r' w' ws' out out' p q =
    let (a, s, t, u) = path_one c r w ws r' w' ws' p.answer q.answer p.promised q.promised in
    let x = p.gives in
    let y = q.gives in
    (cc, s, t, u)

-- kind 1: outcomes with equally many draws
pub decomposed_one : (c : decompose.Call) (d : ℕ) (a b : decompose.After) (out out' : ℕ × ℕ) (p : Decomposed c d a out) (q : Decomposed c d b out')
    → draws_of p.answer ≡ draws_of q.answer → (out ≡ out') × (a ≡ b)
decomposed_one c d a b out out' p q e =
    let (r, s) = decompose_one p.answer q.answer p.promised q.promised e in
    let x = p.gives in
    let y = q.gives in
    (cc, s)

-- kinds 0 and 2, which never draw
pub decomposed_still : (c : decompose.Call) (d : ℕ) (a b : decompose.After) (out out' : ℕ × ℕ)
    → Decomposed c d a out → Decomposed c d b out' → (c.chooser.kind ≡ 1 → ⊥) → (out ≡ out') × (a ≡ b)
decomposed_still c d a b out out' p q e =
    let (r, s) = decompose_still p.answer q.answer p.promised q.promised e in
    let x = p.gives in
    let y = q.gives in
    (cc, s)

pub checked_one : (c : checker.Call) (k v : ℕ) (out out' : ℕ × ℕ × ℕ) → Checked c k v out → Checked c k v out' → out ≡ out'
checked_one c k v out out' p q =
    let a = check_one c p.answer q.answer p.promised q.promised in
    let x = p.gives in
    let y = q.gives in
    cc

pub summed_one : (c : summary.Call) (o r l : ℕ) (out out' : ℕ × ℕ × ℕ × ℕ) → Summed c o r l out → Summed c o r l out' → out ≡ out'
summed_one c o r l out out' p q =
    let a = summary_one c p.answer q.answer p.promised q.promised in
    let x = p.gives in
    let y = q.gives in
    cc

pub readings_one : (c : text.Call) (n m : ℕ) (s t s' t' : List ℕ) (out out' : ℕ × ℕ × ℕ)
    → Read c n m s t out → Read c n m s' t' out' → (out ≡ out') × (s ≡ s') × (t ≡ t')
readings_one c n m s t s' t' out out' p q =
    let (a, g, h) = read_one p.promised q.promised in
    let x = p.gives in
    let y = q.gives in
    (cc, g, h)

pub written_one : (label buffer : List ℕ) (b : ℕ) (x x' : List ℕ) (got got' : ℕ × ℕ)
    → Written label buffer b x got → Written label buffer b x' got' → (got ≡ got') × (x ≡ x')
written_one label buffer b x x' got got' p q =
    let (a, g) = write_one p.promised q.promised in
    let y = p.gives in
    let z = q.gives in
    (cc, g)
