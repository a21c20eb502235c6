-- A vertex is looked at in both directions.
use Prim.Native.Nat.{ℕ, ◌+◌, ◌<◌}
use native.Mathlib.Omega.{arith}
use mathlib.Core.Path.{◌≡◌, sym, ap, ◌∙◌}
use mathlib.Core.Logic.{inl, inr}
use mathlib.Core.Bool.{Bool, true, false}
use mathlib.Core.List.{List}
use lib.ListN.{length, get_or, length-set}
use lib.Seq.{get_or-set_other}
use Rattle.graph.specs.Graph.{Graph, rev}
use Rattle.memory.specs.Decomposer.{col}
use Rattle.paint.proofs.Spreading.{laid_kept}
use Rattle.prune.specs.Trim.{rev_at, into_at, out_at}
use Rattle.prune.specs.Cursor.{cur, Clear, Walking, LookAsk, Looked, TiedAsk, Tied}
use Rattle.prune.proofs.Walks.{clear_kept, rests_wider, rests_still, look_ask, look_none, look_some}

-- the indexes are where nothing below the colours has changed
pub walking_kept : (g : Graph) (b q : ℕ) (w w' : List ℕ) → ((j : ℕ) → j < b → get_or w' j 0 ≡ get_or w j 0) → length w' ≡ length w → Walking g b q w → Walking g b q w'
walking_kept g b q w w' low e s = record {
  out = laid_kept low s.out;
  into = laid_kept low s.into;
  small = s.small;
  long = omega (arith, s.long, e);
  part = s.part;
}

module _ {g : Graph} {b v ob ib q : ℕ} {w : List ℕ} (a : TiedAsk g b v ob ib q w) where
  pub tied_first : LookAsk g.n 0 (out_at g b) ob b v w
  tied_first = look_ask g 0 (out_at g b) b q w a.walking.out (omega arith) (omega (arith, a.walking.long)) v a.low ob
      (omega (arith, a.low, a.starts.high, a.walking.long)) a.starts.out

  module _ {w₁ : List ℕ} {r₁ : Bool} (s : Looked g.n 0 (out_at g b) ob b v q w w₁ r₁) where
    else₁ : (j : ℕ) → (j ≡ out_at g b + v → ⊥) → get_or w₁ j 0 ≡ get_or w j 0
    else₁ j o = ap (λ (x : List ℕ). get_or x j 0) s.store ∙ get_or-set_other w (out_at g b + v) j s.place 0 o

    long₁ : length w₁ ≡ length w
    long₁ = ap length s.store ∙ length-set w (out_at g b + v) s.place

    col₁ : (u : ℕ) → u < g.n → col b w₁ u ≡ col b w u
    col₁ u h = else₁ (b + u) (omega arith)

    walking₁ : Walking g b q w₁
    walking₁ = walking_kept g b q w w₁ (λ j h. else₁ j (omega arith)) long₁ a.walking

    pub tied_none : r₁ ≡ false → Tied g b v q w w₁ r₁
    tied_none e = record {
      else = λ j o _. else₁ j o;
      long = long₁;
      none = λ _. inl (look_none g 0 (out_at g b) b q w a.walking.out (omega arith) (omega (arith, a.walking.long)) v a.low (cur ob w v) a.starts.out s.place s.found (s.none e));
      some = λ o. let y : true ≡ false = sym o ∙ e in (cc);
    }

    into₁ : Clear (rev g) (rev_at g) b q w₁ v (cur ib w₁ v)
    into₁ = rw (else₁ (ib + v) (omega (arith, a.starts.below)))
        (clear_kept (rev g) (rev_at g) b q w w₁ a.walking.into (λ j h. else₁ j (omega arith)) (λ u h p. sym (col₁ u h) ∙ p) v (cur ib w v) a.low a.starts.into)

    pub tied_second : LookAsk g.n (rev_at g) (into_at g b) ib b v w₁
    tied_second = look_ask (rev g) (rev_at g) (into_at g b) b q w₁ walking₁.into (omega arith) (omega (arith, walking₁.long)) v a.low ib
        (omega (arith, a.low, a.starts.below, walking₁.long)) into₁

    module _ {w₂ : List ℕ} {r₂ : Bool} (t : Looked g.n (rev_at g) (into_at g b) ib b v q w₁ w₂ r₂) where
      else₂ : (j : ℕ) → (j ≡ into_at g b + v → ⊥) → get_or w₂ j 0 ≡ get_or w₁ j 0
      else₂ j o = ap (λ (x : List ℕ). get_or x j 0) t.store ∙ get_or-set_other w₁ (into_at g b + v) j t.place 0 o

      low₂ : (j : ℕ) → j < b → get_or w₂ j 0 ≡ get_or w₁ j 0
      low₂ j h = else₂ j (omega arith)

      pub tied_all : r₁ ≡ true → Tied g b v q w w₂ r₂
      tied_all o = record {
        else = λ j x y. else₂ j y ∙ else₁ j x;
        long = ap length t.store ∙ length-set w₁ (into_at g b + v) t.place ∙ long₁;
        none = λ e. inr (λ (f, x, i, y). look_none (rev g) (rev_at g) (into_at g b) b q w₁ walking₁.into (omega arith) (omega (arith, walking₁.long)) v a.low (cur ib w₁ v) into₁ t.place t.found (t.none e)
            (f, x, (i.0, col₁ x i.0 ∙ i.1), y));
        some = λ e. (
          rests_wider (rests_still walking₁.out low₂ (λ u h p. sym (else₂ (b + u) (omega arith)) ∙ p) a.low (else₂ (out_at g b + v) (omega (arith, a.low)))
              (rw s.store (look_some g 0 (out_at g b) b q w a.walking.out (omega arith) (omega (arith, a.walking.long)) v a.low (cur ob w v) a.starts.out s.place s.found (s.some o))))
              (laid_kept low₂ walking₁.out) a.low (λ u h c. else₂ (b + u) (omega arith) ∙ c),
          rw t.store (look_some (rev g) (rev_at g) (into_at g b) b q w₁ walking₁.into (omega arith) (omega (arith, walking₁.long)) v a.low (cur ib w₁ v) into₁ t.place t.found (t.some e)),
        );
      }
