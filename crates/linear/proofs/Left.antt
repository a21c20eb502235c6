-- What is left to do falls by the steps that are made.
use Prim.Native.Nat.{ℕ, suc, ◌+◌, ◌*◌, ◌-◌, ◌≤◌, ◌<◌}
use native.Mathlib.Omega.{arith}
use native.Mathlib.Numerals.{add-one}
use native.Mathlib.Decide.{ℕ_discrete}
use mathlib.Core.Path.{◌≡◌, refl, sym, ap, ◌∙◌}
use mathlib.Core.Logic.{by_cases}
use lib.Dec.{eqb, eqb→eq}
use Rattle.graph.specs.Numbers.{tally}
use Rattle.graph.proofs.Sums.{tally_ext}
use Rattle.graph.proofs.Changes.{tally_less}
use Rattle.graph.proofs.Tests.{cond_true, cond_false, eq_t}
use Rattle.linear.specs.Path.{cost, left}

-- SUMS
pub tally_next : (f : ℕ → ℕ) (q : ℕ) → tally f (q + 1) ≡ tally f q + f q
unfolding tally
tally_next f q = rw add-one refl

-- THE COST of a vertex
module _ (n : ℕ) (off col : ℕ → ℕ) (v : ℕ) where
  pub cost_unseen : col v ≡ n → cost n off col v ≡ 5 + (off (suc v) - off v)
  unfolding cost
  cost_unseen e = cond_true {A = ℕ} (eqb (col v) n) (5 + (off (suc v) - off v)) 0 (eq_t (col v) n e)

  pub cost_seen : (col v ≡ n → ⊥) → cost n off col v ≡ 0
  unfolding cost
  cost_seen o = cond_false {A = ℕ} (eqb (col v) n) (5 + (off (suc v) - off v)) 0 (λ t. o (eqb→eq (col v) n t))

-- who is seen before and after, or neither, costs the same
cost_same : {n : ℕ} (off off' col col' : ℕ → ℕ) → ((v : ℕ) → v ≤ n → off' v ≡ off v) → (v : ℕ) → v < n → (col' v ≡ n → col v ≡ n) → (col v ≡ n → col' v ≡ n)
    → cost n off' col' v ≡ cost n off col v
cost_same {n} off off' col col' offs v l f h = by_cases (ℕ_discrete (col' v) n)
    (λ e. omega (arith, cost_unseen n off' col' v e, cost_unseen n off col v (f e), offs v (omega arith), offs (suc v) l))
    (λ o. cost_seen n off' col' v o ∙ sym (cost_seen n off col v (λ e. o (h e))))

-- x alone is seen now: its cost is gone
pub cost_gone : {n : ℕ} {off off' col col' : ℕ → ℕ} → ((v : ℕ) → v ≤ n → off' v ≡ off v) → (x : ℕ) → x < n → col x ≡ n → (col' x ≡ n → ⊥)
    → ((v : ℕ) → v < n → (v ≡ x → ⊥) → col' v ≡ col v) → tally (cost n off col) n ≡ tally (cost n off' col') n + (5 + (off (suc x) - off x))
cost_gone {n} {off} {off'} {col} {col'} offs x l e o same =
    tally_less (cost n off col) (cost n off' col') n x l (cost_seen n off' col' x o)
    (λ v m d. cost_same off off' col col' offs v m (λ q. sym (same v m d) ∙ q) (λ q. same v m d ∙ q))
    ∙ ap (λ (k : ℕ). tally (cost n off' col') n + k) (cost_unseen n off col x e)

-- A STEP: the path's last had its edges from c up to h before it; the search goes back from it, or enters x at d
module _ {n p : ℕ} {off off' pa pa' cu cu' : ℕ → ℕ} (c h : ℕ) (some : 0 < p) (start : cu (p - 1) ≡ c) (end : off (suc (pa (p - 1))) ≡ h)
    (offs : (v : ℕ) → v ≤ n → off' v ≡ off v) (inside : (i : ℕ) → i < p → pa i < n)
    (pas : (i : ℕ) → i < p - 1 → pa' i ≡ pa i) (cus : (i : ℕ) → i < p - 1 → cu' i ≡ cu i) where
  abbrev rests : ℕ → ℕ
  rests i = off (suc (pa i)) - cu i

  abbrev rests' : ℕ → ℕ
  rests' i = off' (suc (pa' i)) - cu' i

  before_same : tally rests' (p - 1) ≡ tally rests (p - 1)
  before_same = tally_ext rests' rests (p - 1) (λ i l. rw (pas i l, cus i l, offs (suc (pa i)) (inside i (omega arith))) refl)

  path_were : tally rests p ≡ tally rests (p - 1) + (h - c)
  path_were = let e : p ≡ p - 1 + 1 = omega arith in ap (tally rests) e ∙ tally_next rests (p - 1) ∙ (rw (end, start) refl)

  pub left_back : {col col' : ℕ → ℕ} (s k t f f' d q : ℕ) → ((v : ℕ) → v < n → col' v ≡ n → col v ≡ n) → ((v : ℕ) → v < n → col v ≡ n → col' v ≡ n) → t ≤ s → f' ≤ f → f ≤ k → c ≤ d → d ≡ h → q ≡ p - 1
      → 1 + (d - c) + (k - f) + 2 * (s - t) + (f - f') + left n off' t f' q col' pa' cu' ≡ left n off s k p col pa cu
  left_back {col} {col'} s k t f f' d q seen unseen a b e m i j =
      omega (
        arith,
        ap (tally rests') j,
        before_same,
        path_were,
        tally_ext (cost n off' col') (cost n off col) n (λ v l. cost_same off off' col col' offs v l (seen v l) (unseen v l)),
      )

  pub left_entered : {col col' : ℕ → ℕ} (s k x f d : ℕ) → x < n → col x ≡ n → (col' x ≡ n → ⊥) → ((v : ℕ) → v < n → (v ≡ x → ⊥) → col' v ≡ col v) → f ≤ k → c ≤ d → d < h → off' (suc (pa' (p - 1))) ≡ h → cu' (p - 1) ≡ d + 1
      → pa' p ≡ x → cu' p ≡ off x → 1 + (d - c) + (k - f) + 1 + left n off' (s + 1) (f + 1) (p + 1) col' pa' cu' ≡ left n off s k p col pa cu
  left_entered {col} {col'} s k x f d l e o same a b m i j y z =
      omega (arith, before_same, path_were, path_is, tally_next rests' p, last_is, cost_gone {off = off} {off' = off'} {col = col} {col' = col'} offs x l e o same)
    where
      path_is : tally rests' p ≡ tally rests' (p - 1) + (h - (d + 1))
      path_is = let e : p ≡ p - 1 + 1 = omega arith in ap (tally rests') e ∙ tally_next rests' (p - 1) ∙ (rw (i, j) refl)

      last_is : rests' p ≡ off (suc x) - off x
      last_is = rw (y, z, offs (suc x) l) refl
