-- A part that was swept is handed out, whatever swept it.
use Prim.Native.Nat.{ℕ, ◌+◌, ◌≤◌, ◌<◌}
use native.Mathlib.Omega.{arith}
use native.Mathlib.Decide.{ℕ_discrete}
use mathlib.Core.Path.{◌≡◌, sym, ap, ◌∙◌}
use mathlib.Core.Logic.{inr, ⊎_elim}
use mathlib.Core.List.{List}
use lib.ListN.{length, get_or, drop}
use lib.Seq.{get_or-drop}
use Rattle.graph.specs.Graph.{Graph}
use Rattle.graph.specs.Limits.{words_of}
use Rattle.memory.specs.Decomposer.{col, ord, own, nxt, head, chains_at, order_at, pending_at}
use Rattle.split.specs.Chain.{Follows}
use Rattle.parts.specs.Share.{Sharing, ShareAsk}
use Rattle.parts.specs.Divide.{Blank, DivideAsk, Recoloured, Handed}
use Rattle.parts.proofs.Sharing.{pigeons}
use Rattle.split.proofs.Same.{top_le, follows_same, first_same, stage_same}

module _ {g : Graph} {b h top : ℕ} {w ws : List ℕ} (a : DivideAsk g b h top w ws) {w₂ : List ℕ} {top' : ℕ} (y : Recoloured g b h top w w₂ top') where
  -- the part's colour is no new one
  known : own g.n b w h < top
  known = a.stage.owned.below (ord g.n b w h) (a.stage.placed.low h a.first.low)

  ord₂ : (i : ℕ) → ord g.n b w₂ i ≡ ord g.n b w i
  ord₂ i = y.inside.high (order_at g.n b + i) (omega arith)

  nxt₂ : (i : ℕ) → i < g.n → nxt g.n b w₂ i ≡ nxt g.n b w i
  nxt₂ i l = y.inside.mid (chains_at g.n b + i) (omega arith) (omega arith)

  own₂ : (i : ℕ) → own g.n b w₂ i ≡ col b w₂ (ord g.n b w i)
  own₂ i = ap (col b w₂) (ord₂ i)

  -- places of other parts have none of the new colours
  old : (i : ℕ) → i < g.n → (own g.n b w i ≡ own g.n b w h → ⊥) → own g.n b w₂ i < top
  old i l o =
      let v : ord g.n b w i < g.n = a.stage.placed.low i l in
      omega (arith, own₂ i, y.others (ord g.n b w i) v o, a.stage.owned.below (ord g.n b w i) v)

  pub hand_ask : ShareAsk g.n b top top' h w₂
  hand_ask = record {
    small = a.stage.tables.small;
    fits = y.stage.long;
    order = omega (arith, known, a.first.part);
    least = y.more;
    most = top_le y.stage;
    vertex = y.stage.placed.low;
    past = own g.n b w;
    first = a.first;
    chain = λ i l e. rw (nxt₂ i l) (a.chain i l e);
    ours = λ i l m. elim (ℕ_discrete (own g.n b w i) (own g.n b w h)) as (λ _. own g.n b w i ≡ own g.n b w h) [ yes e ↦ e | no e ↦ absurd (omega (arith, m, old i l e)) ];
    split = λ i l e. rw (own₂ i) (y.ours (ord g.n b w i) (a.stage.placed.low i l) e);
    below = λ i l. y.stage.owned.below (ord g.n b w₂ i) (y.stage.placed.low i l);
    none = λ c l m. rw (y.inside.mid (chains_at g.n b + c) (omega arith) (omega (arith, m, top_le y.stage))) (a.none c l (omega (arith, m, top_le y.stage)));
  }

  module _ {w₃ : List ℕ} {children : ℕ} (x : Sharing g.n b top top' w₂ g.n w₃ children) where
    pub hand_colour : (v : ℕ) → v < g.n → col b w₃ v ≡ col b w₂ v
    hand_colour v l = x.low (b + v) (omega arith)

    ord₃ : (i : ℕ) → ord g.n b w₃ i ≡ ord g.n b w₂ i
    ord₃ i = x.high (order_at g.n b + i) (omega arith)

    own₃ : (i : ℕ) → i < g.n → own g.n b w₃ i ≡ own g.n b w₂ i
    own₃ i l = ap (col b w₃) (ord₃ i) ∙ hand_colour (ord g.n b w₂ i) (y.stage.placed.low i l)

    follows : (i : ℕ) → i < g.n → top ≤ own g.n b w₂ i → Follows g.n (own g.n b w₂) i (nxt g.n b w₃ i)
    follows i l m = let f = x.next i l m in ⊎_elim
        (λ r. record { more = f.0; most = omega (arith, r.0); same = λ p. absurd (omega (arith, r.0)); none = λ u c e d. r.1 u c (omega (arith, r.0)) d })
        (λ r. record { more = f.0; most = omega (arith, r.0); same = λ p. r.1; none = r.2 }) f.1

    head_low : (j : ℕ) → j < children → head g.n b w₃ j < g.n
    head_low j l = (x.heads j l).0.low

    pub handed : {ws' : List ℕ} → Blank g.n ws' → ((j : ℕ) → words_of g.n ≤ j → get_or ws' j 0 ≡ get_or ws j 0) → length ws' ≡ length ws
        → Handed g b h top w ws w₃ ws' top' children
    handed blank beyond long = record {
      stage = stage_same w₃ y.stage (λ j l. x.low j (omega arith)) x.high x.long (omega (arith, known, a.first.part, y.more)) hand_colour;
      others = λ v l o. hand_colour v l ∙ y.others v l o;
      ours = λ v l e. rw (hand_colour v l) (y.ours v l e);
      rest = λ i l o. x.rest i l (inr (old i l o)) ∙ nxt₂ i l;
      next = λ i l m. follows_same own₃ l (follows i l (omega (arith, m, own₃ i l)));
      heads = λ j l. let d = x.heads j l in (first_same own₃ d.0, omega (arith, d.1, own₃ (head g.n b w₃ j) (head_low j l)));
      all = λ i l m. let d = x.all i l (omega (arith, m, own₃ i l)) in (d.0, d.1, own₃ (head g.n b w₃ d.0) (head_low d.0 d.1) ∙ d.2 ∙ sym (own₃ i l));
      apart = λ i j l m e. x.apart i j l m (sym (own₃ (head g.n b w₃ i) (head_low i (omega arith))) ∙ e ∙ own₃ (head g.n b w₃ j) (head_low j m));
      most = pigeons (drop (pending_at g.n b) w₃) g.n children
          (λ j l. rw (get_or-drop (pending_at g.n b) w₃ j 0) (head_low j l))
          (λ i j l m e. x.apart i j l m (ap (own g.n b w₂) (sym (get_or-drop (pending_at g.n b) w₃ i 0) ∙ e ∙ get_or-drop (pending_at g.n b) w₃ j 0)));
      none = λ c l m. rw (x.above c l m, y.inside.mid (chains_at g.n b + c) (omega arith) (omega arith)) (a.none c (omega (arith, l, y.more)) m);
      low = λ j l. x.low j (omega arith) ∙ y.inside.low j l;
      high = λ j l. x.high j l ∙ y.inside.high j l;
      long = x.long ∙ y.inside.long;
      blank = blank;
      beyond = beyond;
      words_long = long;
    }
