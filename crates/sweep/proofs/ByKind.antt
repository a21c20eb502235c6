-- The sweep by any kind, from the two sweeps. For kind 1 the front of the words is lent.
use Prim.Native.Nat.{ℕ, ◌≤◌}
use native.Mathlib.Omega.{arith}
use mathlib.Core.Path.{◌≡◌, refl, sym, ◌∙◌}
use mathlib.Core.List.{List, ◌++◌}
use lib.ListN.{length, get_or, take, drop}
use lib.Seq.{get_or-take, length-take-le}
use borrow.Author.Tests.{ne_eqb}
use Rattle.graph.specs.Graph.{Graph}
use Rattle.graph.specs.Limits.{words_of}
use Rattle.graph.specs.Pivot.{draws}
use Rattle.memory.proofs.Lent.{front_long, front_in, front_out}
use Rattle.sets.proofs.Store.{bit_same}
use Rattle.sweep.specs.Sweep.{Swept}
use Rattle.sweep.specs.Drawn.{Empty, DrawnAsk, SweptDrawn}
use Rattle.sweep.specs.Kind.{Blank, KindAsk, KindSwept}
use Rattle.sweep.proofs.Sweeping.{sweeps_kind}

-- THE FRONT OF THE WORDS IS LENT
module _ {n : ℕ} {ws : List ℕ} (a : Blank n ws) where
  pub lent_empty : Empty n (take (words_of n) ws)
  lent_empty = record {
    words = length-take-le (words_of n) ws a.words;
    none = λ v l. bit_same n ws (take (words_of n) ws) (λ j m. get_or-take (words_of n) ws j 0 m) v l ∙ a.none v l;
  }

  -- and comes back as l
  module _ {l : List ℕ} (e : Empty n l) where
    same_long : length l ≡ length (take (words_of n) ws)
    same_long = e.words ∙ sym lent_empty.words

    pub back_long : length (l ++ drop (words_of n) ws) ≡ length ws
    back_long = front_long ws l (words_of n) a.words same_long

    pub back_beyond : (j : ℕ) → words_of n ≤ j → get_or (l ++ drop (words_of n) ws) j 0 ≡ get_or ws j 0
    back_beyond = front_out ws l (words_of n) a.words same_long

    pub back_blank : Blank n (l ++ drop (words_of n) ws)
    back_blank = record {
      words = omega (arith, back_long, a.words);
      none = λ v m. bit_same n l (l ++ drop (words_of n) ws) (front_in ws l (words_of n) a.words same_long) v m ∙ e.none v m;
    }

-- BY KIND
module _ {g : Graph} {slicing b h q top : ℕ} {w ws : List ℕ} (a : KindAsk g slicing b h q top w ws) where
  -- the kinds 0 and 2
  pub kind_chain : {kind state : ℕ} → (kind ≡ 1 → ⊥) → {w' : List ℕ} {top' : ℕ} → Swept g slicing b q 0 0 top w w' top'
      → KindSwept g slicing b q kind state top w ws w' ws state 0 top'
  unfolding draws
  kind_chain {kind} o z = record {
    pivots = z.pivots;
    sweeps = sweeps_kind o z.sweeps;
    drawn = rw (ne_eqb kind 1 o) refl;
    advanced = refl;
    gone = z.gone;
    blank = a.blank;
    beyond = λ j l. refl;
    long = refl;
  }

  -- kind 1
  pub lent_ask : DrawnAsk g slicing b h q top w (take (words_of g.n) ws)
  lent_ask = record { sweep = a.sweep; empty = lent_empty a.blank }

  pub kind_drawn : {kind state : ℕ} → kind ≡ 1 → {w' l : List ℕ} {state' k top' : ℕ} → SweptDrawn g slicing b q state top w w' l state' k top'
      → KindSwept g slicing b q kind state top w ws w' (l ++ drop (words_of g.n) ws) state' k top'
  kind_drawn e {k = k} z = rw e (record {
    pivots = k;
    sweeps = z.sweeps;
    drawn = refl;
    advanced = z.advanced;
    gone = z.gone;
    blank = back_blank a.blank z.empty;
    beyond = back_beyond a.blank z.empty;
    long = back_long a.blank z.empty;
  })
