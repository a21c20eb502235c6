-- From an accepted call to the promise.
use Prim.Native.Nat.{ℕ, ◌≤◌, ◌+◌, ◌*◌}
use native.Mathlib.Omega.{arith}
use native.Mathlib.Nat.{suc-ne-zero}
use mathlib.Core.Path.{◌≡◌, ◌∙◌}
use mathlib.Core.Bool.{Bool, true, false}
use mathlib.Core.List.{List}
use lib.ListN.{length}
use Rattle.graph.specs.Limits.{words_of, numbers_needed, Enough}
use Rattle.graph.specs.Numbers.{tally, many}
use Rattle.graph.specs.Arrows.{SomeOf, EveryOf, arrows}
use Rattle.graph.specs.Sets.{bit, members}
use Rattle.memory.specs.Memory.{Zeroed, Framed, ClearAsk, Cleared}
use Rattle.memory.proofs.Memory.{zeroed_after}
use Rattle.graph.proofs.Refusals.{or_none, or_left_none, given_none, not_lacking, Passed, table_passed, passed_valid}
use Rattle.index.specs.Build.{One}
use Rattle.sets.specs.Sizes.{Words}
use Rattle.sets.proofs.Sizes.{sized, size_below, size_many}
use Rattle.reach.specs.Search.{Call, refusal_on, search_refusal, collection, table_of, Finished}
use Rattle.reach.specs.Steps.{ChooseAsk, TableAsk, NeighboursAsk, RunAsk, Found}
use Rattle.reach.proofs.Direction.{turned_ask, laid_ask, laid_framed}

-- what a call has that is not refused
pub record Accepted (c : Call) : Type 0 where
  pub table : Passed c.n c.sources c.targets c.kinds
  pub starts : length c.starts ≡ words_of c.n
  pub permitted : length c.permitted ≡ words_of c.n
  pub reached : length c.reached ≡ words_of c.n
  pub memory : Enough c.n (length c.sources) (length c.numbers) (length c.words)

module _ (c : Call) (e : search_refusal c ≡ 0) where
  pub accepted : Accepted c
  unfolding refusal_on
  accepted =
      let (e1, r1) = or_none _ _ e in
      let (e2, e3) = or_none _ _ r1 in
      let (s1, r) = or_left_none _ _ (given_none 5 _ (suc-ne-zero 4) e2) in
      let (s, p) = or_left_none _ _ s1 in
      record {
        table = table_passed c.n c.sources c.targets c.kinds e1;
        starts = sized c.n c.starts s;
        permitted = sized c.n c.permitted p;
        reached = sized c.n c.reached r;
        memory = not_lacking c.n (length c.sources) (length c.numbers) (length c.words) (given_none 6 _ (suc-ne-zero 5) e3);
      }

  pub table_ask : TableAsk (collection c) c.numbers
  table_ask = let a = accepted in record {
    valid = passed_valid c.n c.sources c.targets c.kinds c.mask a.table;
    small = a.table.small;
    few = a.table.few;
    room = omega (arith, a.memory.numbers);
  }

  pub neighbours_ask : NeighboursAsk (collection c) c.kinds c.numbers
  neighbours_ask = record { table = table_ask; kinded = accepted.table.kinded }

  sets_ask : ChooseAsk c.n c.starts c.permitted c.reached
  sets_ask = let a = accepted in record { starts_long = a.starts; permitted_long = a.permitted; set_long = a.reached }

  -- along the index in the direction of the search
  directed_ask : (backward : Bool) {w : List ℕ} → One (table_of c backward) c.numbers w → RunAsk (table_of c backward) c.starts c.permitted w c.reached
  directed_ask true o = laid_ask o (turned_ask table_ask) sets_ask
  directed_ask false o = laid_ask o table_ask sets_ask

  pub run_ask : (backward : Bool) {w : List ℕ} → One (table_of c backward) c.numbers w → SomeOf c.n (length c.sources) (λ g. RunAsk g c.starts c.permitted w c.reached)
  run_ask true o = (arrows (table_of c true), directed_ask true o)
  run_ask false o = (arrows (table_of c false), directed_ask false o)

  pub run_found : (backward : Bool) {w w' r : List ℕ} {seen : ℕ} → One (table_of c backward) c.numbers w
      → EveryOf c.n (length c.sources) (λ g. RunAsk g c.starts c.permitted w c.reached → Found g c.starts c.permitted w c.reached w' r seen)
      → Found (table_of c backward) c.starts c.permitted w c.reached w' r seen
  run_found true o h = h (arrows (table_of c true)) (directed_ask true o)
  run_found false o h = h (arrows (table_of c false)) (directed_ask false o)

  pub clear_ask : (w : List ℕ) → length w ≡ length c.numbers → ClearAsk c.n (length c.sources) w c.words
  clear_ask w q = let a = accepted in record {
    limits = record { small = a.table.small; few = a.table.few };
    enough = record { numbers = omega (arith, a.memory.numbers); words = a.memory.words };
  }

module _ (c : Call) (e : search_refusal c ≡ 0) where
  vertices : (r : List ℕ) {k : ℕ} → length r ≡ length c.reached → ((v : ℕ) → c.n ≤ v → bit r v ≡ 0) → k ≡ tally (bit r) (length r * 64) → k ≡ many (members c.n r) c.n
  vertices r l z q = q ∙ size_below r c.n (length r * 64) (omega (arith, (accepted c e).reached)) z ∙ size_many r c.n

  zeroed : {w₂ w : List ℕ} → Framed 0 (3 * c.n + 1 + length c.sources) c.numbers w₂ → Zeroed (numbers_needed c.n (length c.sources)) w₂ w → Zeroed (numbers_needed c.n (length c.sources)) c.numbers w
  zeroed f z = zeroed_after f.long (λ j l. f.high j (omega arith)) z

  -- the index was made, the search found the set, the set was measured, and the working memory cleared
  pub finished : (backward : Bool) {w₁ w₂ r w ws : List ℕ} {k seen : ℕ} → One (table_of c backward) c.numbers w₁ → Found (table_of c backward) c.starts c.permitted w₁ c.reached w₂ r seen → Words r → k ≡ tally (bit r) (length r * 64)
      → Cleared c.n (length c.sources) w₂ w c.words ws → Finished (collection c) c backward r w ws k seen
  finished true {r = r} o f t q x = record {
    long = f.long;
    fit = t;
    sound = f.sound;
    complete = f.complete;
    above = f.above;
    vertices = vertices r f.long f.above q;
    edges = f.count;
    numbers = zeroed (laid_framed o f.frame) x.numbers_zero;
    words = x.words_zero;
  }
  finished false {r = r} o f t q x = record {
    long = f.long;
    fit = t;
    sound = f.sound;
    complete = f.complete;
    above = f.above;
    vertices = vertices r f.long f.above q;
    edges = f.count;
    numbers = zeroed (laid_framed o f.frame) x.numbers_zero;
    words = x.words_zero;
  }
