-- The set of what remains of a part: filled along its chain of places, and what is painted taken out.
use Prim.Native.Nat.{ℕ, zero, suc, ◌+◌, ◌≤◌, ◌<◌}
use native.Mathlib.Omega.{arith}
use native.Mathlib.Decide.{ℕ_discrete, dec_lt}
use mathlib.Core.Path.{◌≡◌, sym, ap, ◌∙◌}
use mathlib.Core.Logic.{◌⊎◌, inl, inr, ⊎_elim}
use mathlib.Core.Bool.{cond}
use mathlib.Core.List.{List}
use lib.ListN.{length}
use borrow.Author.Tests.{eq-eqb, ne_eqb}
use Rattle.graph.specs.Limits.{words_of}
use Rattle.graph.specs.Numbers.{tally}
use Rattle.graph.specs.Apart.{has}
use Rattle.graph.specs.Sets.{bit}
use Rattle.graph.proofs.Sums.{tally_none}
use Rattle.graph.proofs.Changes.{tally_less}
use Rattle.memory.specs.Decomposer.{col, que, ord, own, nxt}
use Rattle.split.specs.Chain.{Follows}
use Rattle.sweep.specs.Drawn.{Marks, EnterAsk, Entered, MarkAsk, StrikeAsk, Struck, EraseAsk, Erased}

pub tally_at : (f : ℕ → ℕ) (n x : ℕ) → x < n → f x ≤ tally f n
unfolding tally
tally_at f zero x h = absurd (omega arith)
tally_at f (suc n) x h = elim (ℕ_discrete x n) as (λ _. f x ≤ tally f n + f n) [ yes e ↦ omega (arith, ap f e) | no e ↦ omega (arith, tally_at f n x (omega arith)) ]

-- THE QUEUE IS TAKEN OUT
module _ {n b : ℕ} {w : List ℕ} {k : ℕ} {ws : List ℕ} {size : ℕ} (a : EraseAsk n b w k ws size) where
  module _ {i : ℕ} (h : i < k) {ws₁ : List ℕ} {left : ℕ} (z : Erased n b w i ws ws₁ left) where
    pub strike_ask : StrikeAsk (que n b w i) ws₁ left
    strike_ask = record {
      room = omega (arith, a.queued.member i h, z.long, a.words);
      some = λ e. omega (arith, e, z.size, tally_at (bit ws₁) n (que n b w i) (a.queued.member i h));
    }

    pub erase_step : {ws₂ : List ℕ} {left' : ℕ} → Struck (que n b w i) ws₁ left ws₂ left' → Erased n b w (i + 1) ws ws₂ left'
    erase_step (inl (e, p, q)) = rw (p, q) (record {
      long = z.long;
      gone = λ j l. elim (ℕ_discrete j i) as (λ _. bit ws₁ (que n b w j) ≡ 0) [ yes y ↦ rw y e | no y ↦ z.gone j (omega arith) ];
      else = λ v o. z.else v (λ j l. o j (omega arith));
      size = z.size;
    })
    erase_step {ws₂} (inr (e, p, q)) = record {
      long = p.long ∙ z.long;
      gone = λ j l. elim (ℕ_discrete (que n b w j) (que n b w i)) as (λ _. bit ws₂ (que n b w j) ≡ 0) [
        | yes y ↦ rw y p.here
        | no y ↦ p.else (que n b w j) y ∙ z.gone j (elim (ℕ_discrete j i) as (λ _. j < i) [ yes r ↦ absurd (y (ap (que n b w) r)) | no r ↦ omega arith ])
      ];
      else = λ v o. p.else v (λ y. o i (omega arith) (sym y)) ∙ z.else v (λ j l. o j (omega arith));
      size = omega (arith, q, e, z.size, tally_less (bit ws₁) (bit ws₂) n (que n b w i) (a.queued.member i h) p.here (λ v l y. p.else v y));
    }

-- THE CHAIN IS ENTERED
pub record Marking (n b h q : ℕ) (w ws₀ : List ℕ) (a : MarkAsk n b h q w ws₀) (i : ℕ) (ws : List ℕ) (k : ℕ) : Type 0 where
  pub words : length ws ≡ words_of n
  pub some : (j : ℕ) → j < i → own n b w j ≡ q → bit ws (ord n b w j) ≡ 1
  pub only : (v : ℕ) → v < n → (bit ws v ≡ 0) ⊎ ((j : ℕ) × (j < i) × (ord n b w j ≡ v) × (own n b w j ≡ q))
  pub size : k ≡ tally (bit ws) n
  pub few : k ≤ i
  pub here : i < n → a.runs.past i ≡ q
  pub most : i ≤ n

module _ {n b h q : ℕ} {w ws₀ : List ℕ} (a : MarkAsk n b h q w ws₀) where
  pub mark_none : Marking n b h q w ws₀ a h ws₀ 0
  mark_none = record {
    words = a.empty.words;
    some = λ j l e. absurd (a.runs.first.none j l (a.runs.still j (omega (arith, a.runs.first.low)) e ∙ sym a.runs.live));
    only = λ v l. inl (a.empty.none v l);
    size = sym (tally_none (bit ws₀) n a.empty.none);
    few = omega arith;
    here = λ t. a.runs.live;
    most = omega (arith, a.runs.first.low);
  }

  module _ {i : ℕ} {ws : List ℕ} {k : ℕ} (z : Marking n b h q w ws₀ a i ws k) where
    module _ (l : i < n) where
      pub mark_next : Follows n a.runs.past i (nxt n b w i)
      mark_next = a.runs.next i l (z.here l)

      pub enter_ask : EnterAsk n b i w ws k
      enter_ask = record { fits = a.fits; low = l; vertex = a.placed.low i l; words = z.words; few = omega (arith, z.few, a.small) }

      between : (j : ℕ) → i < j → j < nxt n b w i → own n b w j ≡ q → ⊥
      between j d m e = mark_next.none j d m (a.runs.still j (omega (arith, mark_next.most)) e ∙ sym (z.here l))

      fresh : bit ws (ord n b w i) ≡ 0
      fresh = ⊎_elim (λ t. t) (λ (j, d, e, _). absurd (omega (arith, d, a.placed.one j i (omega arith) l e))) (z.only (ord n b w i) (a.placed.low i l))

      pub mark_step : {ws' : List ℕ} {k' : ℕ} → Entered n b i q w ws k ws' k' → Marking n b h q w ws₀ a (nxt n b w i) ws' k'
      mark_step {ws'} (inl (c, p, e)) = record {
        words = p.long ∙ z.words;
        some = λ j d y. elim (ℕ_discrete (ord n b w j) (ord n b w i)) as (λ _. bit ws' (ord n b w j) ≡ 1) [
          | yes r ↦ rw r p.here
          | no r ↦ p.else (ord n b w j) r ∙ z.some j (before j d y (λ t. r (ap (ord n b w) t))) y
        ];
        only = λ v d. elim (ℕ_discrete v (ord n b w i)) as (λ _. (bit ws' v ≡ 0) ⊎ ((j : ℕ) × (j < nxt n b w i) × (ord n b w j ≡ v) × (own n b w j ≡ q))) [
          | yes r ↦ inr (i, mark_next.more, sym r, c)
          | no r ↦ ⊎_elim (λ t. inl (p.else v r ∙ t)) (λ t. inr (t.0, omega (arith, t.1, mark_next.more), t.2, t.3)) (z.only v d)
        ];
        size = omega (arith, e, p.here, z.size, tally_less (bit ws') (bit ws) n (ord n b w i) (a.placed.low i l) fresh (λ v d r. sym (p.else v r)));
        few = omega (arith, e, z.few, mark_next.more);
        here = λ m. mark_next.same m ∙ z.here l;
        most = mark_next.most;
      }
        where
          before : (j : ℕ) → j < nxt n b w i → own n b w j ≡ q → (j ≡ i → ⊥) → j < i
          before j d y o = elim (dec_lt j i) as (λ _. j < i) [ yes r ↦ r | no r ↦ absurd (between j (omega arith) d y) ]
      mark_step (inr (c, p, e)) = rw (p, e) (record {
        words = z.words;
        some = λ j d y. elim (dec_lt j i) as (λ _. bit ws (ord n b w j) ≡ 1) [
          | yes r ↦ z.some j r y
          | no r ↦ elim (ℕ_discrete j i) as (λ _. bit ws (ord n b w j) ≡ 1) [ yes m ↦ absurd (c (ap (own n b w) (sym m) ∙ y)) | no m ↦ absurd (between j (omega arith) d y) ]
        ];
        only = λ v d. ⊎_elim (λ t. inl t) (λ t. inr (t.0, omega (arith, t.1, mark_next.more), t.2, t.3)) (z.only v d);
        size = z.size;
        few = omega (arith, z.few, mark_next.more);
        here = λ m. mark_next.same m ∙ z.here l;
        most = mark_next.most;
      })

    pub mark_all : n ≤ i → Marks n b q w ws k
    mark_all m = record {
      words = z.words;
      bits = λ v l. elim (ℕ_discrete (col b w v) q) as (λ _. bit ws v ≡ cond (has (col b w) q v) 1 0) [
        | yes e ↦ let y = a.placed.all v l in
            rw (eq-eqb (col b w v) q e) (ap (bit ws) (sym y.2) ∙ z.some y.0 (omega (arith, y.1)) (ap (col b w) y.2 ∙ e))
        | no e ↦ rw (ne_eqb (col b w v) q e) (⊎_elim (λ t. t) (λ t. absurd (e (ap (col b w) (sym t.2) ∙ t.3))) (z.only v l))
      ];
      size = z.size;
    }
