-- From the painted colours to the set of what is reached.
use Prim.Native.Nat.{ℕ, ◌≤◌, ◌<◌, ◌+◌}
use native.Mathlib.Omega.{arith}
use native.Mathlib.Decide.{ℕ_discrete, dec_lt}
use mathlib.Core.Path.{◌≡◌, sym, ap, subst, ◌∙◌}
use mathlib.Core.Bool.{Bool, ◌&&◌}
use mathlib.Core.Logic.{⊎_elim}
use mathlib.Core.List.{List}
use lib.Dec.{T}
use Rattle.graph.specs.Graph.{Graph, Part, Valid, stay, edges, from}
use Rattle.graph.specs.Parts.{Fwd}
use Rattle.graph.specs.Search.{looked}
use Rattle.graph.specs.Sets.{bit, Members, members}
use Rattle.graph.proofs.Tests.{and_split, and_make}
use Rattle.graph.proofs.Counts.{many_mono}
use Rattle.graph.proofs.Chains.{chain_first, chain_last, chain_wider}
use Rattle.index.proofs.Moved.{held_kept}
use Rattle.paint.specs.Colours.{Coloured, Opens, Hit, painted}
use Rattle.memory.specs.Decomposer.{col}
use Rattle.paint.specs.Paint.{LevelAsk, Spread, Begun, SearchAsk, Searched}
use Rattle.paint.proofs.Painting.{paint_first, paint_opens}
use Rattle.paint.proofs.Components.{painted_hit}
use Rattle.paint.proofs.Spreading.{chain_low, begun_ask, begun_searched}
use Rattle.sets.proofs.Store.{bit_lt}
use Rattle.sets.proofs.Sizes.{members_in, members_out}
use Rattle.reach.specs.Steps.{reaching, Chosen, BeginAsk, BegunBelow, GatherAsk, Gathered, RunAsk, Found}
use Rattle.reach.proofs.Starts.{reaching_still}

-- a set with all the vertices of another has all its edges
looked_less : (g : Graph) (p q : ℕ → Bool) → Valid g → ((v : ℕ) → v < g.n → T (p v) → T (q v)) → looked g p ≤ looked g q
unfolding looked
looked_less g p q ok f = many_mono (λ e. g.counted e && p (from g e)) (λ e. g.counted e && q (from g e)) (edges g)
    (λ e l t. let (x, y) = and_split (g.counted e) (p (from g e)) t in and_make (g.counted e) (q (from g e)) x (f (from g e) (ok.from_low e l) y))

module _ {g : Graph} {starts permitted w₀ r₀ : List ℕ} (a : RunAsk g starts permitted w₀ r₀) where
  abbrev n : ℕ
  n = g.n

  abbrev b : ℕ
  b = n + 1 + edges g

  module _ {w₁ r₁ : List ℕ} (c : Coloured n b (bit permitted) w₀ w₁) (h : Chosen n starts permitted r₀ r₁) where
    pub begin_ask : BeginAsk n b r₁ w₁
    begin_ask = record { small = a.table.small; fits = omega (arith, a.table.room, c.long); words = h.long ∙ a.sets.set_long }

    search_ask : SearchAsk g reaching 0 b w₁
    search_ask = record {
      laid = record {
        valid = a.table.valid;
        few = a.table.few;
        below = omega arith;
        index = held_kept g 0 w₀ w₁ (λ j _ q. c.low j (omega arith)) a.index;
      };
      small = a.table.small;
      fits = begin_ask.fits;
      still = reaching_still;
    }

    -- a colour is open exactly if its vertex is permitted
    opened : (v : ℕ) → v < n → Opens reaching (col b w₁ v) → bit permitted v ≡ 1
    opened v l q = ⊎_elim (λ e. sym (c.colours v l) ∙ e) (λ e. sym (c.colours v l) ∙ e) (paint_opens 1 2 1 2 (col b w₁ v) q)

    open_at : (v : ℕ) → v < n → bit permitted v ≡ 1 → Opens reaching (col b w₁ v)
    open_at v l e q =
        let y : col b w₁ v ≡ 1 = c.colours v l ∙ e in
        let z : ◌≡◌ {A = ℕ} 2 1 = sym (paint_first 1 2 1 2) ∙ ap reaching (sym y) ∙ q ∙ y in
        omega arith

    -- a permitted start
    chosen_low : (v : ℕ) → bit r₁ v ≡ 1 → v < n
    chosen_low v e = elim (dec_lt v n) as (λ _. v < n) [
      | yes l ↦ l
      | no l ↦ absurd (omega (arith, h.above v (omega arith)))
    ]

    chosen_start : (v : ℕ) → bit r₁ v ≡ 1 → bit starts v ≡ 1
    chosen_start v e = omega (arith, h.below v (chosen_low v e), bit_lt starts v, bit_lt permitted v)

    chosen_permitted : (v : ℕ) → bit r₁ v ≡ 1 → bit permitted v ≡ 1
    chosen_permitted v e = omega (arith, h.below v (chosen_low v e), bit_lt starts v, bit_lt permitted v)

    abbrev Chosen·starts : Part
    Chosen·starts v = bit r₁ v ≡ 1

    module _ {w₂ : List ℕ} {k : ℕ} (z : BegunBelow n n b r₁ w₁ w₂ k) where
      begun : Begun g reaching b Chosen·starts w₁ w₂ k
      begun = record { grew = z.grew; low = chosen_low; shut = λ v i. z.shut v (chosen_low v i) i }

      pub spread_ask : LevelAsk g reaching 0 b 0 w₂ k
      spread_ask = begun_ask g reaching 0 b w₁ search_ask Chosen·starts w₂ k begun

      module _ {w₃ : List ℕ} {k' seen : ℕ} (s : Spread g reaching b w₂ k k' w₃ k' seen) where
        searched : Searched g reaching b Chosen·starts w₁ w₃ k' seen
        searched = begun_searched g reaching 0 b w₁ search_ask Chosen·starts w₂ k begun w₃ k' seen s

        pub gather_ask : GatherAsk (b + n) k' w₃ r₁
        gather_ask = record {
          room = omega (arith, searched.few, begin_ask.fits, searched.kept.long);
          inside = λ i l. omega (arith, (searched.member i l).0, begin_ask.words);
        }

        abbrev Hits : Part
        Hits = Hit g reaching b Chosen·starts w₁

        abbrev Reaches : Part
        Reaches = Fwd g (Members n permitted) (Members n starts)

        hit_reached : (v : ℕ) → Hits v → Reaches v
        hit_reached v (x, i, (d, p)) =
            (x, (chosen_low x i, chosen_start x i), (d, chain_low a.table.valid (λ u l q. (l, opened u l q)) (chosen_low x i) p))

        reached_hit : (v : ℕ) → Reaches v → Hits v
        reached_hit v (x, i, (d, p)) =
            let f = chain_first p in
            (x, omega (arith, h.below x i.0, i.1, f.1), (d, chain_wider {g = g} {P = Members n permitted} {Q = λ u. Opens reaching (col b w₁ u)} (λ u t. open_at u t.0 t.1) p))

        reached_low : (v : ℕ) → Reaches v → v < n
        reached_low v (x, i, (d, p)) = (chain_last p).0

        module _ {r₂ : List ℕ} (t : Gathered (b + n) k' w₃ r₁ r₂) where
          bit_hit : (v : ℕ) → bit r₂ v ≡ 1 → Hits v
          bit_hit v e = ⊎_elim {C = Hits v}
              (λ i. (v, i, (0, stay (open_at v (chosen_low v i) (chosen_permitted v i)))))
              (λ i. subst Hits i.2 (searched.member i.0 i.1).1)
              (t.only v e)

          hit_bit : (v : ℕ) → v < n → Hits v → bit r₂ v ≡ 1
          hit_bit v l q = let i = searched.listed v l q in subst (λ (u : ℕ). bit r₂ u ≡ 1) i.2 (t.listed i.0 i.1)

          sound : (v : ℕ) → bit r₂ v ≡ 1 → Reaches v
          sound v e = hit_reached v (bit_hit v e)

          complete : (v : ℕ) → Reaches v → bit r₂ v ≡ 1
          complete v q = hit_bit v (reached_low v q) (reached_hit v q)

          above : (v : ℕ) → n ≤ v → bit r₂ v ≡ 0
          above v l = elim (ℕ_discrete (bit r₂ v) 1) as (λ _. bit r₂ v ≡ 0) [
            | yes e ↦ absurd (omega (arith, reached_low v (sound v e)))
            | no e ↦ omega (arith, bit_lt r₂ v)
          ]

          -- painted is reached
          painted_in : (v : ℕ) → v < n → T (painted reaching b w₁ w₃ v) → T (members n r₂ v)
          painted_in v l p = members_in n r₂ v (l, hit_bit v l ((painted_hit searched reaching_still v l).0 p))

          in_painted : (v : ℕ) → v < n → T (members n r₂ v) → T (painted reaching b w₁ w₃ v)
          in_painted v l p = (painted_hit searched reaching_still v l).1 (bit_hit v (members_out n r₂ v p).1)

          pub found : Found g starts permitted w₀ r₀ w₃ r₂ seen
          found = record {
            long = t.long ∙ h.long;
            sound = sound;
            complete = complete;
            above = above;
            count = omega (
              arith,
              searched.looked,
              looked_less g (painted reaching b w₁ w₃) (members n r₂) a.table.valid painted_in,
              looked_less g (members n r₂) (painted reaching b w₁ w₃) a.table.valid in_painted,
            );
            frame = record {
              long = searched.kept.long ∙ c.long;
              low = λ j l. absurd (omega arith);
              high = λ j l. searched.kept.high j (omega arith) ∙ c.high j (omega arith);
            };
          }
