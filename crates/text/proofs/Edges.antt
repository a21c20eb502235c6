-- The entry lines.
use Rattle.std.proofs.Common.{ℕ, zero, suc, ◌+◌, ◌-◌, ◌≤◌, ◌<◌, add-one, arith, ◌≡◌, refl, sym, ◌∙◌, ap, Bool, true, false, cond, ◌&&◌, leb, List, [], ◌∷◌, ◌++◌, append_assoc, length, take, drop, set, get_or, length-set, Option, Some, None, Ok, Err, is_some, Result as Answer}
use Rattle.std.specs.Result.{result_unwrap_or}
use Rattle.std.proofs.Math.Seq.{take-suc-set, drop-set-lt, drop-drop}
use lib.ListN.{take-append-drop}
use native.Mathlib.Nat.{suc-ne-zero}
use borrow.Author.Tests.{ne_eqb, le-leb, lt-leb}
use Rattle.graph.specs.declared.refusal.Refusal.{Refusal}
use Rattle.graph.specs.Reasons.{number_of}
use Rattle.lines.specs.Pieces.{lines}
use Rattle.lines.specs.Numbers.{numbers, content}
use Rattle.lines.specs.Answers.{shown}
use Rattle.lines.specs.declared.numbers.Found.{Found}
use Rattle.lines.proofs.Rows.{Read, row_faulty, row_held, found_none, found_two}
use Rattle.text.specs.declared.entries.Edge.{Edge}
use Rattle.text.specs.declared.Size.{Size}
use Rattle.text.specs.Market.{Result, refused, done, as_reading, inside, entry_of, with_edge, at_entry, entries}
use Rattle.text.specs.Steps.{only_judged, column, FillAsk, edges_of, Filled}
use Rattle.text.proofs.Tables.{inside_both}

module _ (n i : ℕ) where
  pub inside_none : i < 1 → false ≡ inside n i
  unfolding inside
  inside_none h = rw (lt-leb _ _ h)

  pub inside_some : 1 ≤ i → leb i n ≡ inside n i
  unfolding inside
  inside_some h = rw (le-leb _ _ h)

  pub inside_low : (t : Bool) → t ≡ inside n i → t ≡ true → 1 ≤ i
  inside_low t e f = (inside_both n i (sym e ∙ f)).0

-- one line
module _ (n : ℕ) (line : List ℕ) (row : Option Found) (seen : row ≡ shown (content line)) where
  pub entry_is_faulty : row ≡ None → refused 15 ≡ entry_of n (content line)
  unfolding entry_of
  entry_is_faulty e = rw (row_faulty row (content line) seen e)

  module _ (f : Found) (is : row ≡ Some f) where
    held : Read (content line) f
    held = row_held row (content line) seen f is

    pub entry_blank : f.count ≡ 0 → done None ≡ entry_of n (content line)
    unfolding entry_of
    entry_blank k = rw (held.is, found_none held.vs f held.held k)

    pub entry_other : (f.count ≡ 0 → ⊥) → (f.count ≡ 2 → ⊥) → refused 15 ≡ entry_of n (content line)
    unfolding entry_of
    entry_other k m = rw held.is (other held.vs (λ q. k (many ∙ q)) (λ q. m (many ∙ q)))
      where
        many : f.count ≡ length held.vs
        many = ap (λ (g : Found). g.count) held.held

        other : (vs : List ℕ) → (length vs ≡ 0 → ⊥) → (length vs ≡ 2 → ⊥) → refused 15 ≡ entry_of n (numbers vs)
        other [] k m = absurd (k refl)
        other (x ∷ []) k m = refl
        other (x ∷ y ∷ []) k m = absurd (m refl)
        other (x ∷ y ∷ z ∷ vs) k m = refl

    module _ (two : f.count ≡ 2) (t : Bool) (first : t ≡ inside n (get_or f.numbers 0 0)) where
      abbrev its : Edge
      its = record { source = get_or f.numbers 0 0 - 1; target = get_or f.numbers 1 0 - 1 }

      entry_two : entry_of n (content line) ≡ cond (t && inside n (get_or f.numbers 1 0)) (done (Some its)) (refused 15)
      unfolding entry_of
      entry_two = rw (held.is, found_two held.vs f held.held two, first)

      pub entry_first : t ≡ false → refused 15 ≡ entry_of n (content line)
      entry_first a = rw (entry_two, a)

      module _ (right : t ≡ true) (t' : Bool) (second : t' ≡ inside n (get_or f.numbers 1 0)) where
        pub entry_second : t' ≡ false → refused 15 ≡ entry_of n (content line)
        entry_second a = rw (entry_two, right, ← second, a)

        pub entry_edge : t' ≡ true → done (Some its) ≡ entry_of n (content line)
        entry_edge a = rw (entry_two, right, ← second, a)

-- judging: what was read does not matter
edge_judged : (a : Edge) (r : Result (List Edge)) → only_judged (with_edge a r) ≡ only_judged r
unfolding only_judged with_edge
edge_judged a (refused k) = refl
edge_judged a (done es) = refl

-- all lines are judged
module _ (whole : Result (Unit {0})) (n left : ℕ) (now : List (List ℕ)) (so_far : whole ≡ only_judged (entries n left now)) (none : now ≡ []) where
  pub judged_short : (left ≡ 0 → ⊥) → refused 15 ≡ whole
  unfolding only_judged entries
  judged_short h = sym (so_far ∙ rw (none, ne_eqb left 0 h))

  pub judged_all : left ≡ 0 → done tt ≡ whole
  unfolding only_judged entries
  judged_all h = sym (so_far ∙ rw (none, h))

-- the lines are judged up to those that are left, and one more is read
module _ (whole : Result (Unit {0})) (n left : ℕ) (now after : List (List ℕ)) (so_far : whole ≡ only_judged (entries n left now))
    (w : List ℕ) (first : now ≡ w ∷ after) (x : Answer (Option Edge) Refusal) (read : as_reading x ≡ entry_of n (content w)) where
  turn : whole ≡ only_judged (at_entry (as_reading x) left (λ j. entries n j after))
  unfolding entries
  turn = so_far ∙ rw (first, read)

  pub judged_stop : (r : Refusal) → x ≡ Err r → refused (number_of r) ≡ whole
  unfolding at_entry only_judged
  judged_stop r e = sym (turn ∙ rw e)

  module _ (o : Option Edge) (is : x ≡ Ok o) where
    pub judged_blank : is_some o ≡ false → whole ≡ only_judged (entries n left after)
    unfolding at_entry
    judged_blank q = turn ∙ rw is (go o q)
      where
        go : (o : Option Edge) → is_some o ≡ false → only_judged (at_entry (done o) left (λ j. entries n j after)) ≡ only_judged (entries n left after)
        go None q = refl
        go (Some a) q = cc

    pub judged_surplus : is_some o ≡ true → left < 1 → refused 15 ≡ whole
    unfolding at_entry only_judged
    judged_surplus q h = sym (turn ∙ rw is (go o left q h))
      where
        go : (o : Option Edge) (left : ℕ) → is_some o ≡ true → left < 1 → only_judged (at_entry (done o) left (λ j. entries n j after)) ≡ refused 15
        go None k q h = cc
        go (Some a) zero q h = refl
        go (Some a) (suc k) q h = absurd (omega arith)

    pub judged_edge : is_some o ≡ true → (less : ℕ) → left ≡ less + 1 → whole ≡ only_judged (entries n less after)
    unfolding at_entry
    judged_edge q less h = turn ∙ rw (is, h, add-one less) (go o q)
      where
        go : (o : Option Edge) → is_some o ≡ true → only_judged (at_entry (done o) (suc less) (λ j. entries n j after)) ≡ only_judged (entries n less after)
        go None q = cc
        go (Some a) q = edge_judged a (entries n less after)

pub judged_some : {A : Type 0} (r : Result A) → done tt ≡ only_judged r → (a : A) × (r ≡ done a)
unfolding only_judged
judged_some (refused k) q = cc
judged_some (done a) q = (a, refl)

pub judged_refused : {A : Type 0} (r : Result A) (k : ℕ) → refused k ≡ only_judged r → r ≡ refused k
unfolding only_judged
judged_refused (refused j) k q = cc
judged_refused (done a) k q = cc

-- an edge that was read, and those after it
pub record Rest (a : Edge) (r : Result (List Edge)) (es : List Edge) : Type 0 where
  pub others : List Edge
  pub reads : r ≡ done others
  pub is : es ≡ a ∷ others

edge_rest : (a : Edge) (r : Result (List Edge)) (es : List Edge) → with_edge a r ≡ done es → Rest a r es
unfolding with_edge
edge_rest a (refused k) es q = cc
edge_rest a (done xs) es q = record { others = xs; reads = refl; is = cc }

-- a column is written up to place k, and what is left gives the whole
pub record Half (f : Edge → ℕ) (es left : List Edge) (s₀ : List ℕ) (k : ℕ) (s : List ℕ) : Type 0 where
  pub long : length s ≡ length s₀
  pub is : column f es s₀ ≡ take k s ++ column f left (drop k s)

module _ (f : Edge → ℕ) (es : List Edge) (s₀ : List ℕ) where
  half_none : Half f es es s₀ 0 s₀
  half_none = record { long = refl; is = refl }

  module _ (k : ℕ) (s : List ℕ) where
    half_step : (x : Edge) (left : List Edge) → k < length s → Half f es (x ∷ left) s₀ k s → Half f es left s₀ (k + 1) (set s k (f x))
    half_step x left h a =
        let i : k < suc k = omega arith in
        let e : suc k + length left ≡ k + suc (length left) = omega arith in
        record {
          long = length-set s k (f x) ∙ a.long;
          is = a.is ∙ rw (add-one k, take-suc-set s k (f x) h, drop-set-lt (suc k) s k (f x) i, append_assoc, drop-drop (length left) (suc k) s, drop-drop (suc (length left)) k s, e);
        }

    half_end : Half f es [] s₀ k s → s ≡ column f es s₀
    half_end a = sym (a.is ∙ take-append-drop k s)

-- past the last edge the lines are blank
module _ (n : ℕ) (es : List Edge) where
  blank : (ls : List (List ℕ)) (r : Result (Option Edge)) → (entries n 0 ls ≡ done es → es ≡ []) → at_entry r 0 (λ i. entries n i ls) ≡ done es → es ≡ []
  unfolding at_entry
  blank ls (done None) h q = h q
  blank ls (done (Some a)) h q = cc
  blank ls (refused k) h q = cc

  blanks : (ls : List (List ℕ)) → entries n 0 ls ≡ done es → es ≡ []
  unfolding entries
  blanks [] q = let o : ◌≡◌ {A = Result (List Edge)} (done []) (done es) = q in cc
  blanks (l ∷ ls) q = blank ls (entry_of n (content l)) (blanks ls) q

-- the table is written up to place k, and the lines `now` are left
pub record Filling (text : List ℕ) (size : Size) (s₀ t₀ : List ℕ) (now : List (List ℕ)) (k : ℕ) (s t : List ℕ) : Type 0 where
  pub ask : FillAsk text size s₀ t₀
  pub left : List Edge
  pub more : entries size.n (size.edges - k) now ≡ done left
  pub low : k ≤ size.edges
  pub sources : Half (λ a. a.source) ask.edges left s₀ k s
  pub targets : Half (λ a. a.target) ask.edges left t₀ k t

module _ (text : List ℕ) (size : Size) (s₀ t₀ : List ℕ) where
  pub filling_none : FillAsk text size s₀ t₀ → (now : List (List ℕ)) → now ≡ lines text → Filling text size s₀ t₀ now 0 s₀ t₀
  filling_none a now e =
      let z : size.edges - 0 ≡ size.edges = omega arith in
      let s = half_none (λ a. a.source) a.edges s₀ in
      let t = half_none (λ a. a.target) a.edges t₀ in
      record { ask = a; left = a.edges; more = rw (e, z) a.reads; low = omega arith; sources = s; targets = t }

  module _ (now : List (List ℕ)) (k : ℕ) (s t : List ℕ) (f : Filling text size s₀ t₀ now k s t) where
    filled : f.left ≡ [] → Filled text size s₀ t₀ s t
    unfolding edges_of
    filled none =
        record {
          sources = rw f.ask.reads (half_end (λ a. a.source) f.ask.edges s₀ k s (rw none at f.sources));
          targets = rw f.ask.reads (half_end (λ a. a.target) f.ask.edges t₀ k t (rw none at f.targets));
        }

    -- the last edge is written: the lines that are left are blank
    pub filling_full : k ≡ size.edges → Filled text size s₀ t₀ s t
    filling_full e = let z : size.edges - k ≡ 0 = omega arith in filled (blanks size.n f.left now (rw z at f.more))

    pub filling_end : now ≡ [] → Filled text size s₀ t₀ s t
    unfolding entries
    filling_end e = filled (nothing (size.edges - k) f.left (rw e at f.more))
      where
        nothing : (j : ℕ) (left : List Edge) → entries size.n j [] ≡ done left → left ≡ []
        nothing zero left q = let o : ◌≡◌ {A = Result (List Edge)} (done []) (done left) = q in cc
        nothing (suc j) left q = let o : refused 15 ≡ done left = rw (ne_eqb (suc j) 0 (suc-ne-zero j)) at q in cc

    module _ (w : List ℕ) (after : List (List ℕ)) (first : now ≡ w ∷ after) (x : Answer (Option Edge) Refusal) (read : as_reading x ≡ entry_of size.n (content w)) where
      goes : at_entry (as_reading x) (size.edges - k) (λ i. entries size.n i after) ≡ done f.left
      unfolding entries
      goes = sym (rw (first, ← read)) ∙ f.more

      module _ (a : Edge) (taken : result_unwrap_or x None ≡ Some a) where
        before : (j : ℕ) (y : Answer (Option Edge) Refusal) → result_unwrap_or y None ≡ Some a → at_entry (as_reading y) j (λ i. entries size.n i after) ≡ done f.left → (1 ≤ j) × Rest a (entries size.n (j - 1) after) f.left
        unfolding at_entry
        before zero (Ok (Some b)) is q = cc
        before (suc j) (Ok (Some b)) is q =
            let e : suc j - 1 ≡ j = omega arith in
            let same : b ≡ a = cc in
            (omega arith, rw e (rw same at (edge_rest b (entries size.n j after) f.left q)))
        before j (Ok None) is q = cc
        before j (Err r) is q = cc

        one : (1 ≤ size.edges - k) × Rest a (entries size.n (size.edges - k - 1) after) f.left
        one = before (size.edges - k) x taken goes

        pub filling_room_s : k < length s
        filling_room_s = omega (arith, one.0, f.ask.room_s, f.sources.long)

        pub filling_room_t : k < length t
        filling_room_t = omega (arith, one.0, f.ask.room_t, f.targets.long)

        pub filling_step : Filling text size s₀ t₀ after (k + 1) (set s k a.source) (set t k a.target)
        filling_step =
            let o = one.1 in
            let i : size.edges - k - 1 ≡ size.edges - (k + 1) = omega arith in
            record {
              ask = f.ask;
              left = o.others;
              more = rw (← i) o.reads;
              low = omega (arith, one.0);
              sources = half_step (λ c. c.source) f.ask.edges s₀ k s a o.others filling_room_s (rw o.is at f.sources);
              targets = half_step (λ c. c.target) f.ask.edges t₀ k t a o.others filling_room_t (rw o.is at f.targets);
            }

      -- a line that is no edge is blank
      pub filling_blank : result_unwrap_or x None ≡ None → Filling text size s₀ t₀ after k s t
      unfolding at_entry
      filling_blank none = record { ask = f.ask; left = f.left; more = go x none goes; low = f.low; sources = f.sources; targets = f.targets }
        where
          go : (y : Answer (Option Edge) Refusal) → result_unwrap_or y None ≡ None → at_entry (as_reading y) (size.edges - k) (λ i. entries size.n i after) ≡ done f.left → entries size.n (size.edges - k) after ≡ done f.left
          go (Ok None) n q = q
          go (Ok (Some a)) n q = cc
          go (Err r) n q = cc
