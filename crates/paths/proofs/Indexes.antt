-- The two indexes: the neighbours, and behind them the numbers of the counted edges that enter each vertex.
use Prim.Native.Nat.{ℕ, ◌+◌, ◌-◌, ◌*◌, ◌≤◌, ◌<◌}
use native.Mathlib.Omega.{arith}
use mathlib.Core.Path.{◌≡◌, sym, ap, subst, ◌∙◌}
use mathlib.Core.List.{List}
use lib.ListN.{length, get_or, drop, length-take, length-drop}
use borrow.Rule.Slice.PartMut.{put_mid, mid_of}
use Rattle.graph.specs.Graph.{Graph, rev, edges}
use Rattle.graph.specs.Table.{graph_of, turned_of}
use Rattle.graph.specs.declared.table.Table.{Table}
use Rattle.graph.proofs.Tests.{length_each}
use Rattle.memory.proofs.Lent.{mid_long, mid_low, mid_in, mid_high}
use Rattle.graph.proofs.Chains.{valid_rev, table_turned}
use Rattle.index.specs.Index.{Held, numbered}
use Rattle.index.specs.Build.{IndexAsk, Built, OneAsk, One}
use Rattle.index.proofs.Counts.{start_all}
use Rattle.index.proofs.Asks.{valid_column}
use Rattle.index.proofs.Moved.{adjacent_same, held_kept}
use Rattle.paths.specs.Walk.{reverse, base, FindAsk}

pub record Indexed (g : Graph) (w w' : List ℕ) : Type 0 where
  pub long : length w' ≡ length w
  pub forward : Held g 0 w'
  pub numbers : Held (numbered (rev g)) (reverse g) w'
  pub rest : (j : ℕ) → base g ≤ j → get_or w' j 0 ≡ get_or w j 0

module _ {g : Graph} {kinds : List ℕ} {u : ℕ} {w : List ℕ} (a : FindAsk g kinds u w) where
  pub one_ask : OneAsk g kinds w
  one_ask = record { kinded = a.kinded; column = valid_column a.valid a.small a.few; even = a.valid.same; room = omega (arith, a.room) }

  module _ {w₁ : List ℕ} (o : One g w w₁) where
    -- the numbers have the room behind the neighbours
    behind_ask : IndexAsk (numbered (rev g)) kinds (mid_of (reverse g) (base g - reverse g) w₁)
    behind_ask = record {
      kinded = a.kinded;
      column = valid_column (valid_rev a.valid) a.small a.few;
      even = length_each (edges g) (λ (e : ℕ). e);
      long = omega (arith, length-take (base g - reverse g) (drop (reverse g) w₁), length-drop (reverse g) w₁, a.room, o.long);
    }

    behind_laid : (l : List ℕ) → Built (numbered (rev g)) (mid_of (reverse g) (base g - reverse g) w₁) l → Indexed g w (put_mid (reverse g) (base g - reverse g) w₁ l)
    behind_laid l z =
        let w' : List ℕ = put_mid (reverse g) (base g - reverse g) w₁ l in
        let up : reverse g ≤ base g = omega arith in
        let fits : base g ≤ length w₁ = omega (arith, a.room, o.long) in
        let there : (j : ℕ) → j < base g - reverse g → get_or w' (reverse g + j) 0 ≡ get_or l j 0 = mid_in w₁ l (reverse g) (base g) up fits z.long in
        record {
          long = mid_long w₁ l (reverse g) (base g) up fits z.long ∙ o.long;
          forward = held_kept g 0 w₁ w' (λ j q h. mid_low w₁ l (reverse g) (base g) up fits z.long j (omega arith)) o.index;
          numbers =
              adjacent_same (numbered (rev g)) (λ v. get_or l v 0) (λ i. get_or l (g.n + 1 + i) 0) (λ v. get_or w' (reverse g + v) 0) (λ i. get_or w' (reverse g + g.n + 1 + i) 0)
              (λ v h. there v (omega arith))
              (λ i h. ap (λ (x : ℕ). get_or w' x 0) (omega arith) ∙ there (g.n + 1 + i) (omega arith)) z.index;
          rest = λ j h. mid_high w₁ l (reverse g) (base g) up fits z.long j h ∙ o.rest j (omega (arith, start_all g.counted g.src (edges g) g.n));
        }

-- the numbers by target are those of the turned table t'
module _ {t t' : Table} (is : t' ≡ turned_of t) {u : ℕ} {w w₁ : List ℕ} (a : FindAsk (graph_of t) t.kinds.now u w) (o : One (graph_of t) w w₁) where
  abbrev behind : List ℕ
  behind = mid_of (t.n + 1 + length t.sources.now) (2 * (t.n + 1 + length t.sources.now) - (t.n + 1 + length t.sources.now)) w₁

  same : numbered (graph_of (turned_of t)) ≡ numbered (rev (graph_of t))
  same = ap numbered (table_turned t.n t.sources.now t.targets.now t.kinds.now t.mask a.valid.same)

  pub numbers_ask : IndexAsk (numbered (graph_of t')) t'.kinds.now behind
  numbers_ask =
      let turned : IndexAsk (numbered (graph_of (turned_of t))) t.kinds.now behind = subst (λ (g : Graph). IndexAsk g t.kinds.now behind) (sym same) (behind_ask a o) in
      subst (λ (x : Table). IndexAsk (numbered (graph_of x)) x.kinds.now behind) (sym is) turned

  pub indexed : {l : List ℕ} → Built (numbered (graph_of t')) behind l
      → Indexed (graph_of t) w (put_mid (t.n + 1 + length t.sources.now) (2 * (t.n + 1 + length t.sources.now) - (t.n + 1 + length t.sources.now)) w₁ l)
  indexed {l} z =
      let turned : Built (numbered (graph_of (turned_of t))) behind l = subst (λ (x : Table). Built (numbered (graph_of x)) behind l) is z in
      behind_laid a o l (subst (λ (g : Graph). Built g behind l) same turned)
