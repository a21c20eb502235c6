-- Pieces: the first one, and those past it; and the same by places in the text.
use Rattle.std.proofs.Common.{ℕ, suc, ◌+◌, ◌≤◌, ◌<◌, ◌≡◌, refl, ap, sym, ◌∙◌, Bool, true, false, cond, eqb, List, [], ◌∷◌, length, get_or, take, drop, arith, ◌-◌, add-one, drop_of_length-le, length-drop, length-take, length-take-le, ltb}
use Rattle.std.proofs.lemmas.List.{take_all}
use native.Mathlib.Nat.{add-sub_cancel_left, add-suc}
use Rattle.std.proofs.Math.Seq.{take-length, drop-cons, drop-drop}
use borrow.Author.Tests.{eq-eqb, ne_eqb, eqb-true, eqb-false, ltb-true, ltb-false, lt-ltb}
use Rattle.lines.specs.Pieces.{before, split, run, piece_end, past_end, Place, At, None, piece_at}
use Rattle.lines.specs.Answers.{Cut}

-- the first piece of a list that begins with b, by whether b ends it
first : (stop b : ℕ) (t : Bool) (s : List ℕ) → (s ≡ [] → ⊥) → split stop s ≡ take (run stop s) s ∷ split stop (drop (suc (run stop s)) s) → cond t ([] ∷ split stop s) (before b (split stop s)) ≡ take (cond t 0 (suc (run stop s))) (b ∷ s) ∷ split stop (drop (suc (cond t 0 (suc (run stop s)))) (b ∷ s))
unfolding before
first stop b true s some e = refl
first stop b false s some e = ap (before b) e

one : (stop b : ℕ) (t : Bool) → cond t ([] ∷ split stop []) (before b (split stop [])) ≡ take (cond t 0 (suc (run stop []))) (b ∷ []) ∷ split stop (drop (suc (cond t 0 (suc (run stop [])))) (b ∷ []))
unfolding split run before
one stop b true = refl
one stop b false = refl

split_first : (stop b : ℕ) (s : List ℕ) → split stop (b ∷ s) ≡ take (run stop (b ∷ s)) (b ∷ s) ∷ split stop (drop (suc (run stop (b ∷ s))) (b ∷ s))
unfolding split run
split_first stop b [] = one stop b (eqb b stop)
split_first stop b (c ∷ s) = first stop b (eqb b stop) (c ∷ s) (λ e. cc) (split_first stop c s)

-- the first stop is looked for up to i
module _ (stop : ℕ) (s : List ℕ) (i : ℕ) (so_far : run stop s ≡ i + run stop (drop i s)) where
  pub cut_step : i < length s → (get_or s i 0 ≡ stop → ⊥) → run stop s ≡ i + 1 + run stop (drop (i + 1) s)
  unfolding run
  cut_step h n = so_far ∙ rw (add-one, drop-cons s i 0 h) (simp (ne_eqb _ _ n) (omega arith))

  pub cut_stop : i < length s → get_or s i 0 ≡ stop → Cut stop s (take i s) (take (length s - (i + 1)) (drop (i + 1) s))
  unfolding run
  cut_stop h e =
      let r : run stop s ≡ i = so_far ∙ rw (drop-cons s i 0 h) (simp (eq-eqb _ _ e) (omega arith)) in
      let l : length s - (i + 1) ≡ length (drop (i + 1) s) = sym (length-drop (i + 1) s) in
      record { front = rw r; past = rw (l, take-length (drop (i + 1) s), r, add-one i) }

  pub cut_end : length s ≤ i → Cut stop s s []
  cut_end h =
      let r : length s ≤ run stop s = omega arith in
      let l : length s ≤ suc (run stop s) = omega arith in
      record { front = sym (take_all (run stop s) s r); past = sym (drop_of_length-le s l) }

module _ (stop : ℕ) (s : List ℕ) where
  pub cut_none : eqb (length s) 0 ≡ true → split stop s ≡ []
  unfolding split
  cut_none e = let q : s ≡ [] = drop_of_length-le s {i = 0} (omega (arith, eqb-true (length s) 0 e)) in rw q

  pub cut_known : (p r : List ℕ) → eqb (length s) 0 ≡ false → Cut stop s p r → (split stop s ≡ p ∷ split stop r) × (length p ≤ length s) × (length r < length s)
  cut_known p r some c =
      let n = eqb-false (length s) 0 some in
      (rw (c.front, c.past) (go s n), omega (arith, ap length c.front, length-take (run stop s) s), omega (arith, ap length c.past, length-drop (suc (run stop s)) s, positive (length s) n))
    where
      go : (s : List ℕ) → (length s ≡ 0 → ⊥) → split stop s ≡ take (run stop s) s ∷ split stop (drop (suc (run stop s)) s)
      go [] n = absurd (n refl)
      go (b ∷ s) n = split_first stop b s

      positive : (k : ℕ) → (k ≡ 0 → ⊥) → 0 < k
      positive k n = omega arith

  -- fewer are left past a piece
  pub piece_less : (p r : List ℕ) → split stop s ≡ p ∷ split stop r → length (split stop r) < length (split stop s)
  piece_less p r e = omega (arith, ap length e)

few_step : (t : Bool) (b n : ℕ) (ps : List (List ℕ)) → length ps ≤ n → length (cond t ([] ∷ ps) (before b ps)) ≤ suc n
unfolding before
few_step true b n ps h = omega arith
few_step false b n [] h = omega arith
few_step false b n (p ∷ ps) h = omega arith

-- no more pieces than bytes
pub split_few : (stop : ℕ) (s : List ℕ) → length (split stop s) ≤ length s
unfolding split
split_few stop [] = omega arith
split_few stop (b ∷ s) = few_step (eqb b stop) b (length s) (split stop s) (split_few stop s)

-- what the bounds of a piece say
pub record Known (stop : ℕ) (s : List ℕ) (at a e n : ℕ) : Type 0 where
  pub order : a ≤ e
  pub ends : e ≤ length s
  pub onward : at < n
  pub within : n ≤ length s
  pub pieces : split stop (drop at s) ≡ take (e - a) (drop a s) ∷ split stop (drop n s)

run_le : (stop : ℕ) (s : List ℕ) → run stop s ≤ length s
unfolding run
run_le stop [] = omega arith
run_le stop (x ∷ xs) = go (eqb x stop) (run_le stop xs)
  where
    go : (t : Bool) → run stop xs ≤ length xs → cond t 0 (suc (run stop xs)) ≤ length (x ∷ xs)
    go true h = omega arith
    go false h = omega arith

-- past the end of the text nothing is left, whether or not one is added
past_end_drop : (s : List ℕ) (e : ℕ) (t : Bool) → ltb e (length s) ≡ t → e ≤ length s → drop (suc e) s ≡ drop (cond t (e + 1) e) s
past_end_drop s e true p h = rw (add-one e)
past_end_drop s e false p h =
    let l : length s ≤ e = ltb-false _ _ p in
    let m : length s ≤ suc e = omega arith in
    drop_of_length-le s m ∙ sym (drop_of_length-le s l)

past_in : (e l : ℕ) (t : Bool) → ltb e l ≡ t → e ≤ l → cond t (e + 1) e ≤ l
past_in e l true p h = let q : e < l = ltb-true _ _ p in omega arith
past_in e l false p h = h

past_over : (at e l : ℕ) (t : Bool) → ltb e l ≡ t → at ≤ e → at < l → at < cond t (e + 1) e
past_over at e l true p h k = omega arith
past_over at e l false p h k = let q : l ≤ e = ltb-false _ _ p in omega arith

module _ (stop : ℕ) (s : List ℕ) (at : ℕ) where
  place_end : at ≤ length s → piece_end stop s at ≤ length s
  place_end h = let r = run_le stop (drop at s) in let d = length-drop at s in omega arith

  -- a piece by places is the cut of what stands from its start on
  place_cut : at < length s → Cut stop (drop at s) (take (piece_end stop s at - at) (drop at s)) (drop (past_end s (piece_end stop s at)) s)
  place_cut h =
      let e = piece_end stop s at in
      record {
        front = rw (add-sub_cancel_left at (run stop (drop at s)));
        past = sym (rw (drop-drop (suc (run stop (drop at s))) at s, add-suc at (run stop (drop at s)), past_end_drop s e (ltb e (length s)) refl (place_end (omega arith))));
      }

  place_known : at < length s → Known stop s at at (piece_end stop s at) (past_end s (piece_end stop s at))
  place_known h =
      let e = piece_end stop s at in
      let l : e ≤ length s = place_end (omega arith) in
      let some : length (drop at s) ≡ 0 → ⊥ = λ z. (let d = length-drop at s in omega arith) in
      record {
        order = omega arith;
        ends = l;
        onward = past_over at e (length s) (ltb e (length s)) refl (omega arith) h;
        within = past_in e (length s) (ltb e (length s)) refl l;
        pieces = (cut_known stop (drop at s) _ _ (ne_eqb _ _ some) (place_cut h)).0;
      }

  -- a cut of what stands from `at` on is the piece by places
  pub cut_place : at < length s → (p r : List ℕ) → Cut stop (drop at s) p r → piece_at stop s at ≡ At at (at + length p) (past_end s (at + length p))
  cut_place h p r c = rw (lt-ltb _ _ h, c.front, length-take-le (run stop (drop at s)) (drop at s) (run_le stop (drop at s)))

  module _ (a e n : ℕ) where
    its : (P : ℕ → ℕ → ℕ → Type 0) (t : Bool) → cond t (At at (piece_end stop s at) (past_end s (piece_end stop s at))) None ≡ At a e n → (t ≡ true → P at (piece_end stop s at) (past_end s (piece_end stop s at))) → P a e n
    its P true q h =
        let x : at ≡ a = cc in
        let y : piece_end stop s at ≡ e = cc in
        let z : past_end s (piece_end stop s at) ≡ n = cc in
        rw (← x, ← y, ← z) (h refl)
    its P false q h = let z : ◌≡◌ {A = ℕ} 0 1 = cc in absurd (omega arith)

  none' : (t : Bool) → ltb at (length s) ≡ t → cond t (At at (piece_end stop s at) (past_end s (piece_end stop s at))) None ≡ None → split stop (drop at s) ≡ []
  unfolding split
  none' true p q = let z : ◌≡◌ {A = ℕ} 0 1 = cc in absurd (omega arith)
  none' false p q = rw (drop_of_length-le s (ltb-false _ _ p))

  -- what a piece by places says
  module _ (p : Place) (told : p ≡ piece_at stop s at) where
    pub piece_none : p ≡ None → split stop (drop at s) ≡ []
    piece_none q = none' (ltb at (length s)) refl (sym told ∙ q)

    module _ (a e n : ℕ) (is : p ≡ At a e n) where
      pub piece_known : Known stop s at a e n
      piece_known = its a e n (Known stop s at) (ltb at (length s)) (sym told ∙ is) (λ t. place_known (ltb-true _ _ t))

      pub piece_cut : Cut stop (drop at s) (take (e - a) (drop a s)) (drop n s)
      piece_cut = its a e n (λ a e n. Cut stop (drop at s) (take (e - a) (drop a s)) (drop n s)) (ltb at (length s)) (sym told ∙ is) (λ t. place_cut (ltb-true _ _ t))
