-- The lines up to the size line.
use Rattle.std.proofs.Common.{ℕ, suc, ◌≤◌, ◌<◌, ◌≡◌, refl, sym, ◌∙◌, ap, Bool, true, false, not, ◌&&◌, eqb, List, [], ◌∷◌, length, get_or, take, Option, Some, None, Ok, Err, Bor, Result as Answer}
use native.Mathlib.Nat.{suc-ne-zero}
use Rattle.std.specs.Cmp.Lexicographic.{pointwise}
use borrow.Author.Tests.{eqb-true, eqb-false, eq-eqb, ne_eqb, le-leb, lt-leb, not-true, not-false}
use Rattle.graph.specs.declared.refusal.Refusal.{Refusal}
use Rattle.graph.specs.declared.refusal.Refusal.TheVariants.{FirstLineFaulty, SizeLineFaulty}
use Rattle.lines.specs.Pieces.{lines}
use Rattle.lines.specs.Numbers.{numbers, longest_line, content}
use Rattle.lines.specs.Answers.{found_of, shown, pieces_of}
use Rattle.lines.specs.declared.numbers.Found.{Found}
use Rattle.lines.proofs.Rows.{row_faulty, row_held, found_three}
use Rattle.std.specs.Fn.{CalledAt}
use Rattle.std.specs.Iterator.{YieldsFirstRef, Yields, FindsItem}
use Rattle.std.specs.List.{FoldsTo}
use denote.Param.Members.{Mut}
use Rattle.lines.specs.declared.pieces.Pieces.{Pieces}
use Rattle.text.specs.declared.header.Head.{Head}
use Rattle.text.specs.declared.header.Limits.{Limits}
use Rattle.text.specs.declared.Size.{Size}
use Rattle.text.specs.Market.{Result, refused, as_reading, same, banner, percent, is_comment, has_none, passed_over, pass_over, size_refusal, sized, size_of, at_size, from_size, from_first, market}
use Rattle.text.proofs.Tables.{size_fits}
use Rattle.text.specs.Steps.{SizeLine, HeadSaid}

-- two lists of bytes are compared place by place
pub same_is : (a b : List ℕ) → pointwise eqb a b ≡ same a b
unfolding same
same_is [] [] = refl
same_is [] (y ∷ b) = refl
same_is (x ∷ a) [] = refl
same_is (x ∷ a) (y ∷ b) = ap (λ (t : Bool). eqb x y && t) (same_is a b)

and_yes : (t : Bool) → (t && true) ≡ t
and_yes true = refl
and_yes false = refl

turned : (b : ℕ) → eqb percent b ≡ eqb b percent
turned b = go (eqb b percent) refl
  where
    go : (t : Bool) → eqb b percent ≡ t → eqb percent b ≡ eqb b percent
    go true e = eq-eqb percent b (sym (eqb-true b percent e)) ∙ sym e
    go false e = ne_eqb percent b (λ q. eqb-false b percent e (sym q)) ∙ sym e

-- a comment
module _ (line : List ℕ) where
  pub comment_long : longest_line < length line → false ≡ is_comment line
  unfolding is_comment
  comment_long h = rw (lt-leb _ _ h)

  pub comment_first : (t : Bool) → t ≡ pointwise eqb (percent ∷ []) (take 1 line) → length line ≤ longest_line → t ≡ is_comment line
  unfolding is_comment
  comment_first t e h = e ∙ rw (le-leb _ _ h) (go line)
    where
      go : (l : List ℕ) → pointwise eqb (percent ∷ []) (take 1 l) ≡ eqb (get_or l 0 0) percent
      go [] = refl
      go (b ∷ l) = and_yes (eqb percent b) ∙ turned b

  -- a line that is passed over
  module _ (t : Bool) (told : t ≡ is_comment line) where
    pub passed_comment : t ≡ true → true ≡ passed_over line
    unfolding passed_over
    passed_comment e = rw (← told, e)

    module _ (other : t ≡ false) (row : Option Found) (seen : row ≡ shown (content line)) where
      pub passed_faulty : row ≡ None → false ≡ passed_over line
      unfolding passed_over has_none
      passed_faulty e = rw (← told, other, row_faulty row (content line) seen e)

      pub passed_count : (f : Found) → row ≡ Some f → eqb f.count 0 ≡ passed_over line
      unfolding passed_over has_none
      passed_count f e = let h = row_held row (content line) seen f e in go h.vs h.is h.held
        where
          go : (vs : List ℕ) → content line ≡ numbers vs → f ≡ found_of vs → eqb f.count 0 ≡ passed_over line
          go [] q h = rw (← told, other, q, h)
          go (v ∷ vs) q h = rw (← told, other, q, h) (ne_eqb (suc (length vs)) 0 (suc-ne-zero (length vs)))

-- lines are passed over one by one, by a closure that says of each whether it is passed over
abbrev steps : Pieces → Option (Bor (List ℕ)) → Pieces → Type 0
steps p x q = YieldsFirstRef pieces_of p x q × (q.stop ≡ p.stop)

module _ {F : Type 0} (g : Mut F (Bor (Bor (List ℕ)) × Unit {0}) Bool) (f : F) (says : (x : Bor (List ℕ)) (b : Bool) (q : F) → CalledAt g f x b q → (q ≡ f) × (b ≡ not (passed_over x.now))) where
  passed : (s : Pieces) (xs : List (Bor (List ℕ))) (t : Pieces) (q : F) → Yields steps s xs t → FoldsTo (λ p x q. CalledAt g p x false q) f xs q
      → (pass_over (pieces_of s) ≡ pass_over (pieces_of t)) × (t.stop ≡ s.stop) × (f ≡ q)
  unfolding pass_over
  passed s [] t q e k = (ap (λ (p : Pieces). pass_over (pieces_of p)) e, ap (λ (p : Pieces). p.stop) (sym e), k)
  passed s (x ∷ xs) t q y k =
      let said = says x false k.0 k.1 in
      let next : FoldsTo (λ p x q. CalledAt g p x false q) f xs q = rw said.0 at k.2 in
      let more = passed y.0 xs t q y.2 next in
      (rw (y.1.0, not-false _ (sym said.1)) more.0, more.1 ∙ y.1.1, more.2)

  pub size_line_found : (s u : Pieces) (r : Option (Bor (List ℕ))) → FindsItem steps g s f r u → SizeLine (pieces_of s) r (pieces_of u) × (u.stop ≡ s.stop)
  unfolding pass_over SizeLine
  size_line_found s u None d =
      let more = passed s d.0 d.2.0 d.1 d.2.1 d.3 in
      (more.0 ∙ rw d.2.2.0.0, d.2.2.1 ∙ more.1)
  size_line_found s u (Some x) d =
      let more = passed s d.0 d.2.0 d.1 d.2.1 d.3 in
      let called : CalledAt g f x true d.4.0 = rw more.2 d.4.1 in
      (more.0 ∙ rw (d.2.2.0, not-true _ (sym (says x true d.4.0 called).1)), d.2.2.1 ∙ more.1)

-- the size line
module _ (l : Limits) (line : List ℕ) (row : Option Found) (seen : row ≡ shown (content line)) where
  pub size_faulty : row ≡ None → refused 14 ≡ size_of l (content line)
  unfolding size_of
  size_faulty e = rw (row_faulty row (content line) seen e)

  module _ (f : Found) (is : row ≡ Some f) where
    pub size_other : (f.count ≡ 3 → ⊥) → refused 14 ≡ size_of l (content line)
    unfolding size_of
    size_other n = let h = row_held row (content line) seen f is in rw h.is (other h.vs (λ q. n (ap (λ (g : Found). g.count) h.held ∙ q)))
      where
        other : (vs : List ℕ) → (length vs ≡ 3 → ⊥) → refused 14 ≡ size_of l (numbers vs)
        other [] n = refl
        other (x ∷ []) n = refl
        other (x ∷ y ∷ []) n = refl
        other (x ∷ y ∷ z ∷ []) n = absurd (n refl)
        other (x ∷ y ∷ z ∷ u ∷ vs) n = refl

    pub size_three : f.count ≡ 3 → (s : Result Size) → s ≡ sized (size_refusal l (get_or f.numbers 0 0) (get_or f.numbers 1 0) (get_or f.numbers 2 0)) (get_or f.numbers 0 0) (get_or f.numbers 2 0) → s ≡ size_of l (content line)
    unfolding size_of
    size_three n s q = let h = row_held row (content line) seen f is in rw (h.is, found_three h.vs f h.held n) q

-- all lines up to the size line
module _ (l : Limits) (text : List ℕ) where
  pub head_none : lines text ≡ [] → HeadSaid l text (Err FirstLineFaulty)
  unfolding HeadSaid market from_first
  head_none q = rw q

  module _ (w : List ℕ) (after : List (List ℕ)) (first : lines text ≡ w ∷ after) (t : Bool) (told : t ≡ not (pointwise eqb w banner)) where
    pub head_first : t ≡ true → HeadSaid l text (Err FirstLineFaulty)
    unfolding HeadSaid market from_first
    head_first f = rw (first, ← same_is w banner, not-true _ (sym told ∙ f))

    module _ (right : t ≡ false) (r : Option (Bor (List ℕ))) (rest : List (List ℕ)) (said : SizeLine after r rest) where
      begins : market l text ≡ from_size l (pass_over after)
      unfolding market from_first
      begins = rw (first, ← same_is w banner, not-false _ (sym told ∙ right))

      pub head_missing : r ≡ None → HeadSaid l text (Err SizeLineFaulty)
      unfolding HeadSaid from_size SizeLine
      head_missing q = begins ∙ rw (rw q at said)

      module _ (v : Bor (List ℕ)) (is : r ≡ Some v) (s : Answer Size Refusal) (read : as_reading s ≡ size_of l (content v.now)) where
        size : market l text ≡ at_size (as_reading s) rest
        unfolding from_size SizeLine
        size = let e : pass_over after ≡ v.now ∷ rest = rw is at said in begins ∙ rw (e, read)

        pub head_refused : (k : Refusal) → s ≡ Err k → HeadSaid l text (Err k)
        unfolding HeadSaid at_size
        head_refused k q = size ∙ rw q

        pub head_is : (h : Head) → s ≡ Ok h.size → rest ≡ lines h.rest.now → HeadSaid l text (Ok h)
        unfolding HeadSaid at_size
        head_is h q e = record { fits = size_fits l (content v.now) h.size (sym read ∙ ap as_reading q); comes_to = size ∙ rw (q, e) }
