-- From an accepted call through the steps to the promise.
use Prim.Native.Nat.{ℕ, zero, suc, ◌+◌, ◌-◌, ◌*◌, ◌≤◌, ◌<◌}
use native.Mathlib.Omega.{arith}
use native.Mathlib.Nat.{suc-ne-zero}
use native.Mathlib.Decide.{ℕ_discrete}
use mathlib.Core.Path.{◌≡◌, refl, sym, ap, ◌∙◌}
use mathlib.Core.Bool.{Bool, true, false, cond, ◌&&◌}
use mathlib.Core.List.{List}
use lib.ListN.{length}
use lib.Dec.{T, eqb, ltb, eqb→eq}
use Rattle.graph.specs.Limits.{words_of, Enough}
use Rattle.graph.specs.Graph.{Graph, rev, edges}
use Rattle.graph.specs.Numbers.{tally, many, mark}
use Rattle.graph.specs.Search.{trim, trimmed, core}
use Rattle.graph.specs.Sets.{bit, members}
use Rattle.memory.specs.Memory.{Zeroed, ClearAsk, Cleared}
use Rattle.memory.proofs.Memory.{zeroed_after}
use Rattle.graph.proofs.Tests.{each_same, t_dec, eq_t}
use Rattle.graph.proofs.Sums.{tally_ext, many_tally}
use Rattle.graph.proofs.Chains.{valid_rev}
use Rattle.graph.proofs.Refusals.{or_none, or_left_none, given_none, not_lacking, Passed, table_passed, passed_valid}
use Rattle.graph.proofs.Trim.{core_is}
use Rattle.index.specs.Build.{BothAsk, Both}
use Rattle.index.proofs.Asks.{valid_both}
use Rattle.index.proofs.Counts.{start_all}
use Rattle.index.proofs.Moved.{held_kept}
use Rattle.sets.proofs.Store.{bit_lt, empty_bit}
use Rattle.sets.specs.Sizes.{Words}
use Rattle.sets.proofs.Sizes.{sized, size_below, members_out}
use Rattle.memory.specs.Decomposer.{col, own, nxt}
use Rattle.paint.specs.Colours.{Coloured}
use Rattle.prune.specs.Chain.{Follows}
use Rattle.prune.specs.Trim.{hued, rev_at, TrimAsk, Trimmed}
use Rattle.trim.specs.Stages.{hue, StringAsk, Strung, CollectAsk, Collected, RunAsk, Ran}
use Rattle.trim.specs.Promise.{Call, refusal_on, trim_refusal, collection, left_of, Finished}
use Rattle.prune.proofs.Core.{hued_is, is_hued, core_of}

-- tests that hold together are equal
same_test : (a b : Bool) → (T a → T b) → (T b → T a) → a ≡ b
same_test true true f g = refl
same_test true false f g = absurd (f tt)
same_test false true f g = absurd (g tt)
same_test false false f g = refl

-- the core depends only on which vertices below n are in the part
pub core_same : (g : Graph) (p p' : ℕ → Bool) → ((v : ℕ) → v < g.n → p v ≡ p' v) → core g p ≡ core g p'
unfolding trimmed
core_same g p p' f = rounds g.n
  where
    rounds : (k : ℕ) → trimmed g p k ≡ trimmed g p' k
    rounds zero = each_same g.n p p' f
    rounds (suc k) = ap (trim g) (rounds k)

-- THE STEPS
module _ {g : Graph} {kinds part w₀ r₀ : List ℕ} (a : RunAsk g kinds part w₀ r₀) where
  abbrev n : ℕ
  n = g.n

  abbrev b : ℕ
  b = 2 * (n + 1 + edges g)

  pub both_ask : BothAsk g kinds w₀
  both_ask = valid_both a.valid a.kinded a.small a.few (omega (arith, a.room))

  module _ {w₁ : List ℕ} (o : Both g w₀ w₁) where
    module _ {w₂ : List ℕ} (c : Coloured n b (hue n part) w₁ w₂) where
      pub string_ask : StringAsk n b w₂
      string_ask = record { small = a.small; long = omega (arith, a.room, o.long, c.long) }

      module _ {w₃ : List ℕ} {h : ℕ} (s : Strung n b n 0 h w₂ w₃) where
        same_own : (i : ℕ) → i < n → own n b w₃ i ≡ col b w₂ i
        same_own i l = ap (col b w₃) (s.order i (omega arith) l) ∙ s.low (b + i) (omega arith)

        follows : (i : ℕ) → i < n → own n b w₃ i ≡ n → Follows n (own n b w₃) i (nxt n b w₃ i)
        follows i l e =
            let f = s.next i (omega arith) l in
            record {
              more = omega (arith, f.least);
              most = f.most;
              same = λ t. same_own (nxt n b w₃ i) t ∙ f.here t ∙ sym e;
              none = λ u x y t. f.none u (omega arith) y (sym (same_own u (omega (arith, f.most))) ∙ t ∙ e);
            }

        pub trim_ask : TrimAsk g b h n w₃
        trim_ask = record {
          fwd = record {
            valid = a.valid;
            few = a.few;
            below = omega arith;
            index = held_kept g 0 w₁ w₃ (λ j _ l. s.low j (omega arith) ∙ c.low j (omega arith)) o.forward;
          };
          bwd = record {
            valid = valid_rev a.valid;
            few = a.few;
            below = omega arith;
            index = held_kept (rev g) (rev_at g) w₁ w₃ (λ j _ l. s.low j (omega arith) ∙ c.low j (omega arith)) o.reverse;
          };
          small = a.small;
          long = omega (arith, string_ask.long, s.long);
          part = omega arith;
          chain = record {
            placed = record { low = λ i l. rw (s.order i (omega arith) l) l; all = λ v l. (v, l, s.order v (omega arith) l) };
            head = record {
              most = s.first.most;
              here = λ l. same_own h l ∙ s.first.here l;
              none = λ u l e. s.first.none u (omega arith) l (sym (same_own u (omega (arith, s.first.most))) ∙ e);
            };
            next = follows;
          };
        }

        -- the colour n is the part
        coloured : (v : ℕ) → v < n → hued n b n w₃ v ≡ members n part v
        coloured v l =
            let e : col b w₃ v ≡ n + 1 - bit part v = s.low (b + v) (omega arith) ∙ c.colours v l in
            ap (λ (t : Bool). ltb v n && t) (same_test (eqb (col b w₃ v) n) (eqb (bit part v) 1)
            (λ t. eq_t (bit part v) 1 (let d = eqb→eq (col b w₃ v) n t in omega (arith, bit_lt part v)))
            (λ t. eq_t (col b w₃ v) n (let d = eqb→eq (bit part v) 1 t in omega arith)))

        left_same : core g (hued n b n w₃) ≡ core g (members n part)
        left_same = core_same g (hued n b n w₃) (members n part) coloured

        module _ {w₄ : List ℕ} {k : ℕ} (t : Trimmed g b n w₃ w₄ k) {r₁ : List ℕ} (z : Zeroed (length part) r₀ r₁) where
          pub collect_ask : CollectAsk n b w₄ r₁
          collect_ask = record {
            small = a.small;
            room = omega (arith, trim_ask.long, t.aside.long);
            words = z.long ∙ a.left_long;
            empty = empty_bit (length part) r₀ r₁ (omega (arith, a.part_long, a.left_long)) z;
          }

          kept : (v : ℕ) → v < n → col b w₄ v ≡ n → T (mark (core g (hued n b n w₃)) v)
          kept v l e = elim (t_dec (mark (core g (hued n b n w₃)) v)) as (λ _. T (mark (core g (hued n b n w₃)) v)) [
            | yes y ↦ y
            | no y ↦ absurd (elim (ℕ_discrete (col b w₃ v) n) as (λ _. ⊥) [
              | yes q ↦ omega (arith, t.goes v l q y)
              | no q ↦ q (sym (t.else v l q) ∙ e)
            ])
          ]

          left : (v : ℕ) → hued n b n w₄ v ≡ mark (core g (hued n b n w₃)) v
          left v = same_test (hued n b n w₄ v) (mark (core g (hued n b n w₃)) v)
              (λ y. let (l, e) = hued_is n b n w₄ v y in kept v l e)
              (λ y. let (l, e) = hued_is n b n w₃ v ((core_of g b n w₃).inside v y) in is_hued n b n w₄ v (l, t.stays v l y))

          pub ran : {r₂ : List ℕ} → Collected n b n w₄ r₁ r₂ → Ran g part w₀ r₀ w₄ r₂
          ran d = record {
            long = d.long ∙ z.long;
            set = λ v. d.set v ∙ ap (λ (t : Bool). cond t 1 0) (left v ∙ ap (λ (l : List Bool). mark l v) left_same);
            numbers = t.aside.long ∙ s.long ∙ c.long ∙ o.long;
            rest = λ j l. t.aside.high j (omega arith) ∙ s.high j (omega arith) ∙ c.high j (omega arith) ∙ o.rest j (omega (arith, start_all g.counted g.tgt (edges g) n));
          }

-- THE CALL
-- what a call has that is not refused
pub record Accepted (c : Call) : Type 0 where
  pub table : Passed c.n c.sources c.targets c.kinds
  pub part : length c.part ≡ words_of c.n
  pub left : length c.left ≡ words_of c.n
  pub memory : Enough c.n (length c.sources) (length c.numbers) (length c.words)

module _ (c : Call) (e : trim_refusal c ≡ 0) where
  pub accepted : Accepted c
  unfolding refusal_on
  accepted =
      let (e1, r1) = or_none _ _ e in
      let (e2, e3) = or_none _ _ r1 in
      let (p, l) = or_left_none _ _ (given_none 5 _ (suc-ne-zero 4) e2) in
      record {
        table = table_passed c.n c.sources c.targets c.kinds e1;
        part = sized c.n c.part p;
        left = sized c.n c.left l;
        memory = not_lacking c.n (length c.sources) (length c.numbers) (length c.words) (given_none 6 _ (suc-ne-zero 5) e3);
      }

  pub run_ask : RunAsk (collection c) c.kinds c.part c.numbers c.left
  run_ask = let a = accepted in record {
    valid = passed_valid c.n c.sources c.targets c.kinds c.mask a.table;
    kinded = a.table.kinded;
    small = a.table.small;
    few = a.table.few;
    room = a.memory.numbers;
    part_long = a.part;
    left_long = a.left;
  }

  pub clear_ask : (w : List ℕ) → length w ≡ length c.numbers → ClearAsk c.n (length c.sources) w c.words
  clear_ask w q = let a = accepted in record {
    limits = record { small = a.table.small; few = a.table.few };
    enough = record { numbers = omega (arith, a.memory.numbers); words = a.memory.words };
  }

  -- the part was trimmed, what is left measured, and the working memory cleared
  module _ {w₁ r : List ℕ} (z : Ran (collection c) c.part c.numbers c.left w₁ r) where
    low : (v : ℕ) → T (mark (left_of (collection c) c) v) → v < c.n
    low v t =
        let i = (core_is (collection c) (members c.n c.part) (λ u y. (members_out c.n c.part u y).0)).inside v t in
        (members_out c.n c.part v i).0

    above : (v : ℕ) → c.n ≤ v → bit r v ≡ 0
    above v l = z.set v ∙ ap (λ (t : Bool). cond t 1 0) (same_test (mark (left_of (collection c) c) v) false (λ t. absurd (omega (arith, low v t))) (λ t. absurd t))

    size : (k : ℕ) → k ≡ tally (bit r) (length r * 64) → k ≡ many (mark (left_of (collection c) c)) c.n
    size k q = q ∙ size_below r c.n (length r * 64) (omega (arith, accepted.left, z.long)) above
        ∙ tally_ext (bit r) (λ v. cond (mark (left_of (collection c) c) v) 1 0) c.n (λ v l. z.set v) ∙ sym (many_tally (mark (left_of (collection c) c)) c.n)

    pub finished : {w ws : List ℕ} {k : ℕ} → Words r → k ≡ tally (bit r) (length r * 64) → Cleared c.n (length c.sources) w₁ w c.words ws → Finished (collection c) c r w ws k
    finished {k = k} t q x = record {
      long = z.long;
      fit = t;
      set = z.set;
      above = above;
      vertices = size k q;
      numbers = zeroed_after z.numbers z.rest x.numbers_zero;
      words = x.words_zero;
    }
