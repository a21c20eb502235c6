-- The edges are offered, the last first.
use Prim.Native.Nat.{ℕ, suc, ◌+◌, ◌-◌, ◌≤◌, ◌<◌}
use native.Mathlib.Omega.{arith}
use native.Mathlib.Decide.{ℕ_discrete}
use mathlib.Core.Path.{◌≡◌, refl, sym, ◌∙◌}
use mathlib.Core.Logic.{inl, inr, by_cases}
use mathlib.Core.Bool.{Bool, true, false, ◌&&◌}
use mathlib.Core.List.{List}
use lib.ListN.{length, get_or, set, length-set}
use lib.Dec.{eqb}
use lib.Seq.{get_or-set_same, get_or-set_other}
use borrow.Author.Tests.{ne_eqb}
use Rattle.graph.specs.Graph.{Graph, edges, from, to}
use Rattle.memory.specs.Memory.{Framed, region, Holds, Filled}
use Rattle.graph.specs.Checker.{at, no_edge}
use Rattle.memory.proofs.Memory.{framed_none, framed_more, set_framed}
use Rattle.certificate.specs.Entries.{fits, FirstFit}
use Rattle.certificate.specs.Offer.{EntriesAsk, OfferAsk, Offered, Entered}

fits_same : (g : Graph) (lab : List ℕ) (d h : ℕ → ℕ) (e v : ℕ) → d v ≡ h v → d (from g e) ≡ h (from g e) → fits g lab d e v ≡ fits g lab h e v
unfolding fits
fits_same g lab d h e v p q = rw (p, q)

fits_else : (g : Graph) (lab : List ℕ) (d : ℕ → ℕ) (e v : ℕ) → (to g e ≡ v → ⊥) → fits g lab d e v ≡ false
unfolding fits
fits_else g lab d e v o = rw (ne_eqb (to g e) v o) (and_false (g.counted e) (eqb (at lab (from g e)) (at lab v)) (eqb (d v) (d (from g e) + 1)))
  where
    and_false : (a b c : Bool) → (a && false && b && c) ≡ false
    and_false true b c = refl
    and_false false b c = refl

first_down : (g : Graph) (lab : List ℕ) (d : ℕ → ℕ) (a x v : ℕ) → fits g lab d a v ≡ false → FirstFit g lab d (suc a) x v → FirstFit g lab d a x v
first_down g lab d a x v z (inl (q, none)) = inl (q, λ e l m. by_cases (ℕ_discrete e a) (λ y. rw y z) (λ o. none e (omega arith) m))
first_down g lab d a x v z (inr (l, m, f, none)) = inr (omega arith, m, f, λ e i j. by_cases (ℕ_discrete e a) (λ y. rw y z) (λ o. none e (omega arith) j))

-- the edges from e on have been offered
pub record Offers (g : Graph) (lab : List ℕ) (d b e : ℕ) (w₀ w : List ℕ) : Type 0 where
  pub framed : Framed b (b + g.n) w₀ w
  pub first : (dist : ℕ → ℕ) → Holds g.n d dist w₀ → (v : ℕ) → v < g.n → FirstFit g lab dist e (region b w v) v

-- what is asked holds in any memory of that length
pub entries_kept : {g : Graph} {kinds lab : List ℕ} {d b : ℕ} {w w' : List ℕ} → EntriesAsk g kinds lab d b w → length w' ≡ length w → EntriesAsk g kinds lab d b w'
entries_kept a q = record { valid = a.valid; kinded = a.kinded; size = a.size; few = a.few; apart = a.apart; room = omega (arith, a.room) }

pub offered_kept : {g : Graph} {kinds lab : List ℕ} {d b : ℕ} (e : ℕ) {w w' : List ℕ} → EntriesAsk g kinds lab d b w → Offered g lab d b e w w' → EntriesAsk g kinds lab d b w'
offered_kept {g} {b = b} e {w} a (inl (_, q)) = entries_kept a (rw q (length-set w (b + to g e) e))
offered_kept e a (inr (_, q)) = rw q a

pub offers_none : {g : Graph} {lab : List ℕ} {d b : ℕ} {w w₀ : List ℕ} → Filled b g.n no_edge w w₀ → Offers g lab d b (edges g) w₀ w₀
offers_none f = record { framed = framed_none _ _ _; first = λ dist h v l. inl (f.each v l, λ e p q. absurd (omega arith)) }

module _ {g : Graph} {kinds lab : List ℕ} {d b e : ℕ} {w : List ℕ} (a : EntriesAsk g kinds lab d b w) (l : e ≤ edges g) where
  module _ (some : 0 < e) where
    pub offer_ask : OfferAsk g kinds lab d b (e - 1) w
    offer_ask =
        let m : e - 1 < edges g = omega arith in
        record { ask = a; low = m; leaves = a.valid.from_low (e - 1) m; enters = a.valid.to_low (e - 1) m }

    module _ {w₀ : List ℕ} (x : Offers g lab d b e w₀ w) where
      dist_now : (dist : ℕ → ℕ) → Holds g.n d dist w₀ → (v : ℕ) → v < g.n → region d w v ≡ dist v
      dist_now dist h v l = x.framed.low (d + v) (omega (arith, a.apart)) ∙ h v l

      fits_now : (dist : ℕ → ℕ) → Holds g.n d dist w₀ → fits g lab (region d w) (e - 1) (to g (e - 1)) ≡ fits g lab dist (e - 1) (to g (e - 1))
      fits_now dist h = fits_same g lab (region d w) dist (e - 1) (to g (e - 1)) (dist_now dist h _ offer_ask.enters) (dist_now dist h _ offer_ask.leaves)

      was : (dist : ℕ → ℕ) → Holds g.n d dist w₀ → (v : ℕ) → v < g.n → FirstFit g lab dist (suc (e - 1)) (region b w v) v
      was dist h v l = let z : e ≡ suc (e - 1) = omega arith in rw z at (x.first dist h v l)

      pub offers_step : {w' : List ℕ} → Offered g lab d b (e - 1) w w' → Offers g lab d b (e - 1) w₀ w'
      offers_step (inr (z, q)) =
          rw q
          (record {
            framed = x.framed;
            first = λ dist h v l. first_down g lab dist (e - 1) (region b w v) v
                (by_cases (ℕ_discrete (to g (e - 1)) v) (λ y. rw y at (sym (fits_now dist h) ∙ z)) (λ o. fits_else g lab dist (e - 1) v o))
                (was dist h v l);
          })
      offers_step (inl (t, q)) =
          rw q
          (record {
            framed = framed_more x.framed (set_framed w b (b + g.n) (b + to g (e - 1)) (e - 1) (omega arith) (omega (arith, offer_ask.enters)));
            first = λ dist h v l. by_cases (ℕ_discrete (to g (e - 1)) v)
                (λ y. rw (← y, here) (inr (omega arith, offer_ask.low, sym (fits_now dist h) ∙ t, λ i j k. absurd (omega arith))))
                (λ o. rw (get_or-set_other w (b + to g (e - 1)) (b + v) (e - 1) 0 (λ y. o (omega arith))) (first_down g lab dist (e - 1) (region b w v) v (fits_else g lab dist (e - 1) v o) (was dist h v l)));
          })
        where
          here : get_or (set w (b + to g (e - 1)) (e - 1)) (b + to g (e - 1)) 0 ≡ e - 1
          here = get_or-set_same w (b + to g (e - 1)) (e - 1) 0 (omega (arith, a.room, offer_ask.enters))

  pub offers_all : {w₁ w₀ : List ℕ} → e ≤ 0 → Filled b g.n no_edge w₁ w₀ → Offers g lab d b e w₀ w → Entered g lab d b w₁ w
  offers_all none f x =
      let z : e ≡ 0 = omega arith in
      record {
        framed = framed_more f.framed x.framed;
        entries = λ dist h v l. rw z at (x.first dist (λ v l. f.framed.low (d + v) (omega (arith, a.apart)) ∙ h v l) v l);
      }
