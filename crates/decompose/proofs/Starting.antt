-- The beginning: one part, the whole, whose chain of places is the order.
use Prim.Native.Nat.{ℕ, ◌+◌, ◌-◌, ◌*◌, ◌/◌, ◌≤◌, ◌<◌}
use native.Mathlib.Omega.{arith}
use native.Mathlib.Nat.{not-suc-le-zero}
use mathlib.Core.Path.{◌≡◌, refl, sym, ap, subst, ◌∙◌}
use mathlib.Core.List.{List}
use lib.ListN.{length, get_or}
use Rattle.graph.specs.Graph.{Graph, rev, edges}
use Rattle.graph.specs.Limits.{words_needed, numbers_needed}
use Rattle.memory.specs.Memory.{Zeroed, Put}
use Rattle.graph.proofs.Chains.{same_low}
use Rattle.graph.proofs.Counts.{many_none}
use Rattle.sets.proofs.Store.{zero_bit}
use Rattle.index.specs.Build.{Both}
use Rattle.index.proofs.Counts.{start_all}
use Rattle.index.proofs.Moved.{held_kept}
use Rattle.memory.specs.Decomposer.{col, ord, own, nxt, lst, head, chains_at, lasts_at, pending_at, order_at}
use Rattle.pivot.specs.Order.{Arranged, Ordered}
use Rattle.pivot.proofs.Places.{arranged_same}
use Rattle.split.specs.State.{ring, rings, Tables, Stage}
use Rattle.parts.specs.Divide.{Blank}
use Rattle.sweep.proofs.Choice.{arranged_placed}
use Rattle.split.proofs.Rings.{ring_is}
use Rattle.graph.specs.Pivot.{list_of}
use Rattle.memory.specs.declared.layout.Layout.{Layout}
use Rattle.decompose.specs.Begin.{layout_of, StartAsk, Started}
use Rattle.machine.specs.Machine.{base}

-- words of zeros are a set with no vertex
pub blank_zeroed : {n : ℕ} {ws ws' : List ℕ} → words_needed n ≤ length ws → Zeroed (words_needed n) ws ws' → Blank n ws'
blank_zeroed {n} {ws} {ws'} l z =
    record {
      words = omega (arith, z.long);
      none = λ v h. zero_bit ws' v (z.front (v / 64) (omega arith));
    }

module _ (g : Graph) (L : List ℕ) {kinds w w₁ w₂ w₃ w₄ w₅ w₆ ws ws' : List ℕ} (ask : StartAsk g kinds w ws)
    (both : Both g w w₁) (placed : Ordered g.n L (base g) w₁ w₂)
    (p : Put (base g) g.n (λ j. g.n) w₂ w₃) (q : Put (chains_at g.n (base g)) g.n (λ j. j + 1) w₃ w₄) (r : Put (lasts_at g.n (base g)) (3 * g.n + 2) (λ j. g.n) w₄ w₅) (s : Put (pending_at g.n (base g)) 1 (λ j. 0) w₅ w₆)
    (z : Zeroed (words_needed g.n) ws ws') where
  abbrev b : ℕ
  b = base g

  some : 0 < g.n
  some = ask.some

  colour : (v : ℕ) → v < g.n → col b w₆ v ≡ g.n
  colour v l = s.framed.low (b + v) (omega arith) ∙ r.framed.low (b + v) (omega arith) ∙ q.framed.low (b + v) (omega arith) ∙ p.each v l

  low : (j : ℕ) → j < b → get_or w₆ j 0 ≡ get_or w₁ j 0
  low j h = s.framed.low j (omega arith) ∙ r.framed.low j (omega arith) ∙ q.framed.low j (omega arith) ∙ p.framed.low j h ∙ placed.beside.low j h

  long : length w₆ ≡ length w
  long = s.framed.long ∙ r.framed.long ∙ q.framed.long ∙ p.framed.long ∙ placed.beside.long ∙ both.long

  ordered : (i : ℕ) → ord g.n b w₆ i ≡ ord g.n b w₂ i
  ordered i = s.framed.high (order_at g.n b + i) (omega (arith, some)) ∙ r.framed.high (order_at g.n b + i) (omega arith) ∙ q.framed.high (order_at g.n b + i) (omega arith) ∙ p.framed.high (order_at g.n b + i) (omega arith)

  arranged : Arranged g.n L (ord g.n b w₆)
  arranged = arranged_same ordered placed.order

  beyond : (j : ℕ) → numbers_needed g.n (edges g) ≤ j → get_or w₆ j 0 ≡ get_or w j 0
  beyond j h =
      s.framed.high j (omega arith) ∙ r.framed.high j (omega arith) ∙ q.framed.high j (omega arith) ∙ p.framed.high j (omega arith)
      ∙ placed.beside.high j (omega arith) ∙ both.rest j (omega (arith, start_all g.counted g.tgt (edges g) g.n))

  -- every place has the one colour
  place : (i : ℕ) → i < g.n → own g.n b w₆ i ≡ g.n
  place i l = colour (ord g.n b w₆ i) (arranged.low i l)

  follow : (i : ℕ) → i < g.n → nxt g.n b w₆ i ≡ i + 1
  follow i l = s.framed.low (chains_at g.n b + i) (omega arith) ∙ r.framed.low (chains_at g.n b + i) (omega arith) ∙ q.each i l

  last : (c : ℕ) → g.n ≤ c → c < 4 * g.n + 2 → lst g.n b w₆ c ≡ g.n
  last c l h =
      let e : chains_at g.n b + c ≡ lasts_at g.n b + (c - g.n) = omega arith in
      s.framed.low (chains_at g.n b + c) (omega arith) ∙ ap (λ (j : ℕ). get_or w₅ j 0) e ∙ r.each (c - g.n) (omega arith)

  zeroth : head g.n b w₆ 0 ≡ 0
  zeroth = s.each 0 (omega arith)

  tables : Tables g b w₆
  tables =
      record {
        valid = ask.ask.valid;
        few = ask.ask.few;
        small = ask.ask.small;
        below = omega arith;
        fwd = held_kept g 0 w₁ w₆ (λ j h k. low j (omega arith)) both.forward;
        bwd = held_kept (rev g) (g.n + 1 + edges g) w₁ w₆ (λ j h k. low j (omega arith)) both.reverse;
      }

  stage : Stage g b (g.n + 1) w₆
  stage =
      record {
        tables = tables;
        placed = arranged_placed arranged;
        owned = record {
          whole = λ u v h e. colour u h ∙ sym (colour v (same_low ask.ask.valid e h));
          right = λ v h e. absurd (omega (arith, colour v h));
          below = λ v h. omega (arith, colour v h);
        };
        room = omega arith;
        long = omega (arith, ask.ask.memory.numbers, long);
      }

  pub started : (kind : ℕ) (list : List ℕ) → L ≡ list_of kind list → Started g kind list w ws w₆ ws'
  started kind list e =
      record {
        waits = record {
          stage = stage;
          next = λ i l h. rw (follow i l) (record {
            more = omega arith;
            most = omega arith;
            same = λ d. place (i + 1) d ∙ sym (place i l);
            none = λ u c d f. omega arith;
          });
          none = λ c l h. omega (arith, last c (omega arith) h);
          first = λ i l. let x : i ≡ 0 = omega arith in rw (x, zeroth) (record { low = some; part = omega (arith, place 0 some); none = λ u d f. absurd (not-suc-le-zero d) });
          all = λ u l h. (0, omega arith, ap (own g.n b w₆) zeroth ∙ place 0 some ∙ sym (place u l));
          one = λ i j l m x. omega arith;
        };
        whole = record { zero = zeroth; colours = colour; first = refl };
        order = rw (sym e) arranged;
        blank = blank_zeroed ask.ask.memory.words z;
        long = long;
        beyond = beyond;
        words_long = z.long;
        words = z.rest;
      }

-- the same where the layout is one that a call gave, and where its regions begin as it says
pub started_at : (g : Graph) (at : Layout) (kind : ℕ) (list : List ℕ) {kinds w w₁ w₂ w₃ w₄ w₅ w₆ ws ws' : List ℕ} {k x y z : ℕ} → at ≡ layout_of g → x ≡ chains_at at.n at.base → y ≡ lasts_at at.n at.base → z ≡ pending_at at.n at.base → k ≡ words_needed at.n
    → StartAsk g kinds w ws → Both g w w₁ → Ordered at.n (list_of kind list) at.base w₁ w₂
    → Put at.base at.n (λ j. at.n) w₂ w₃ → Put x at.n (λ j. j + 1) w₃ w₄ → Put y (3 * at.n + 2) (λ j. at.n) w₄ w₅ → Put z 1 (λ j. 0) w₅ w₆ → Zeroed k ws ws' → Started g kind list w ws w₆ ws'
started_at g at kind list {kinds} {w} {w₁} {w₂} {w₃} {w₄} {w₅} {w₆} {ws} {ws'} {k} {x} {y} {z} e a b c d ask both =
    rw (a, b, c, d) (subst (λ (at : Layout). Ordered at.n (list_of kind list) at.base w₁ w₂
    → Put at.base at.n (λ j. at.n) w₂ w₃ → Put (chains_at at.n at.base) at.n (λ j. j + 1) w₃ w₄ → Put (lasts_at at.n at.base) (3 * at.n + 2) (λ j. at.n) w₄ w₅ → Put (pending_at at.n at.base) 1 (λ j. 0) w₅ w₆
    → Zeroed (words_needed at.n) ws ws' → Started g kind list w ws w₆ ws') (sym e)
    (λ o p q r s z. started g (list_of kind list) ask both o p q r s z kind list refl))

-- at the beginning no component has its label
pub rings_begin : (g : Graph) (b : ℕ) (w : List ℕ) → ((v : ℕ) → v < g.n → col b w v ≡ g.n) → rings g b w ≤ 0
rings_begin g b w h =
    omega (arith, many_none (ring g.n (col b w)) g.n (λ i l t. omega (arith, (ring_is g.n (col b w) i t).0, h i l)))
