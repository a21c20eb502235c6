-- The index in the direction of the search, and what it leaves for the search.
use native.Mathlib.Omega.{arith}
use Prim.Native.Nat.{ℕ, ◌+◌, ◌*◌}
use mathlib.Core.Path.{◌≡◌, subst, ◌∙◌}
use mathlib.Core.List.{List}
use Rattle.graph.specs.Graph.{Graph, table, rev, edges}
use Rattle.memory.specs.Memory.{Framed}
use Rattle.graph.proofs.Chains.{valid_rev, table_turned}
use Rattle.index.specs.Build.{One}
use Rattle.index.proofs.Counts.{start_all}
use Rattle.reach.specs.Steps.{ChooseAsk, TableAsk, NeighboursAsk, RunAsk}

pub turned_ask : {g : Graph} {w : List ℕ} → TableAsk g w → TableAsk (rev g) w
turned_ask a = record { valid = valid_rev a.valid; small = a.small; few = a.few; room = a.room }

-- backward, the columns change places
module _ (mask : ℕ) {n : ℕ} {s t kinds w : List ℕ} (a : NeighboursAsk (table n s t kinds mask) kinds w) where
  same : table n t s kinds mask ≡ rev (table n s t kinds mask)
  same = table_turned n s t kinds mask a.table.valid.same

  pub back_one : {w' : List ℕ} → One (table n t s kinds mask) w w' → One (rev (table n s t kinds mask)) w w'
  back_one {w'} o = subst (λ (g : Graph). One g w w') same o

-- the index is made, and the sets are there
module _ {g : Graph} {w w₁ : List ℕ} (o : One g w w₁) where
  pub laid_ask : {starts permitted r : List ℕ} → TableAsk g w → ChooseAsk g.n starts permitted r → RunAsk g starts permitted w₁ r
  laid_ask a s = record {
    table = record { valid = a.valid; small = a.small; few = a.few; room = omega (arith, a.room, o.long) };
    index = o.index;
    sets = s;
  }

  -- the search after it leaves what lies behind
  pub laid_framed : {w₂ : List ℕ} → Framed 0 (3 * g.n + 1 + edges g) w₁ w₂ → Framed 0 (3 * g.n + 1 + edges g) w w₂
  laid_framed f = record {
    long = f.long ∙ o.long;
    low = λ j l. absurd (omega arith);
    high = λ j l. f.high j l ∙ o.rest j (omega (arith, start_all g.counted g.src (edges g) g.n));
  }
