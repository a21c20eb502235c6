-- A part divided: what makes it ready, the sweep and the handing out, put together.
use Prim.Native.Nat.{ℕ, ◌+◌, ◌≤◌, ◌<◌}
use native.Mathlib.Omega.{arith}
use native.Mathlib.Decide.{ℕ_discrete}
use mathlib.Core.Path.{◌≡◌, refl, sym, ap, ◌∙◌}
use mathlib.Core.Logic.{◌⊎◌, inl, inr, ⊎_elim}
use mathlib.Core.List.{List}
use lib.Dec.{T, ltb, ltb→lt, lt→ltb, eqb}
use Rattle.graph.specs.Graph.{Graph}
use Rattle.graph.specs.Parts.{Alone, Closed}
use Rattle.graph.specs.Pivot.{list_of}
use Rattle.graph.specs.Apart.{In, Divides}
use Rattle.graph.proofs.Chains.{valid_rev, same_low}
use Rattle.graph.proofs.Counts.{many_le, many_mono, many_more}
use Rattle.memory.specs.Decomposer.{col, ord, own, chains_at, order_at, Inside}
use Rattle.memory.proofs.Memory.{touched_more}
use Rattle.pivot.specs.Order.{Arranged}
use Rattle.pivot.proofs.Places.{arranged_same}
use Rattle.prune.specs.Cursor.{Hued}
use Rattle.prune.specs.Trim.{Trimmed}
use Rattle.prune.proofs.Core.{gone_alone}
use Rattle.split.specs.State.{Owned, labelled, rings, Stage}
use Rattle.split.specs.Chain.{First}
use Rattle.split.proofs.Rings.{rings_none, rings_alone}
use Rattle.split.proofs.Same.{labels_same, owned_alone, stage_moved}
use Rattle.sweep.specs.Kind.{KindAsk, KindSwept}
use Rattle.sweep.proofs.Alike.{Alike, sweeps_alike}
use Rattle.sweep.proofs.Sweeping.{SweptSoFar, sweeps_so_far}
use Rattle.sweep.proofs.Choice.{sweeps_choices}
use Rattle.parts.specs.Share.{Sharing, ShareAsk}
use Rattle.parts.specs.Divide.{MethodAsk, MakeAsk, Made, Recoloured, Division}
use Rattle.parts.proofs.Handing.{hand_ask, hand_colour, handed}

-- the number that stands for a method makes ready as the method does
pub made_alike : {g : Graph} {s t b q : ℕ} {w w' : List ℕ} → Alike s t → Made g s b q w w' → Made g t b q w w'
made_alike a z = ⊎_elim (λ y. inl (λ o. y.0 (a.1 o), y.1)) (λ y. inr (a.0 y.0, y.1)) z

-- and of two numbers of which both are 1, or neither, what is divided by one is divided by the other: no proof here needs it, a caller that knows a part by its method does
pub division_alike : {g : Graph} {s t b kind state h top : ℕ} {w ws w' ws' : List ℕ} {state' k top' children : ℕ}
    → Alike s t → Division g s b kind state h top w ws w' ws' state' k top' children → Division g t b kind state h top w ws w' ws' state' k top' children
division_alike a z = record {
  first = z.first;
  handed = z.handed;
  ready = z.ready;
  made = made_alike a z.made;
  swept = z.swept;
  pivots = z.pivots;
  sweeps = sweeps_alike a z.sweeps;
  drawn = z.drawn;
  advanced = z.advanced;
  colours = z.colours;
  most = z.most;
  many = z.many;
  few = λ o. z.few (λ e. o (a.0 e));
  some = λ o. z.some (λ e. o (a.0 e));
  alone = λ e. z.alone (a.1 e);
}

-- what trimming takes from a part is a component alone
trim_each : {g : Graph} {b q top : ℕ} {w w' : List ℕ} {k : ℕ} → Stage g b top w → g.n ≤ q → Trimmed g b q w w' k
    → (v : ℕ) → v < g.n → (col b w' v ≡ col b w v) ⊎ ((col b w v ≡ q) × (col b w' v ≡ v) × Alone g v)
trim_each {g} {b} {q} {w = w} {w'} {k} s part z v l = go (ℕ_discrete (col b w v) q) (ℕ_discrete (col b w' v) q)
  where
    closed : Closed g (Hued g.n b q w)
    closed u v e (l, c) = (same_low s.tables.valid e l, sym (s.owned.whole u v l e) ∙ c)

    go : Dec (col b w v ≡ q) → Dec (col b w' v ≡ q) → (col b w' v ≡ col b w v) ⊎ ((col b w v ≡ q) × (col b w' v ≡ v) × Alone g v)
    go (no o) d = inl (z.else v l o)
    go (yes e) (yes y) = inl (y ∙ sym e)
    go (yes e) (no o) = inr (e, z.goes v l e (λ t. o (z.stays v l t)), gone_alone g b q w w' k part closed z v l e o)

-- COMPONENTS ALONE HAVE LEFT THE PART
module _ {g : Graph} {b q top : ℕ} {w : List ℕ} (w₁ : List ℕ) (s : Stage g b top w) (part : g.n ≤ q) (known : q < top) (inside : Inside g.n b w w₁)
    (each : (v : ℕ) → v < g.n → (col b w₁ v ≡ col b w v) ⊎ ((col b w v ≡ q) × (col b w₁ v ≡ v) × Alone g v)) where
  alone_else : (v : ℕ) → v < g.n → (col b w v ≡ q → ⊥) → col b w₁ v ≡ col b w v
  alone_else v l o = ⊎_elim (λ x. x) (λ x. absurd (o x.0)) (each v l)

  alone_owned : Owned g (col b w₁) top
  alone_owned = owned_alone (col b w) (col b w₁) s.tables.valid (omega (arith, part, known)) s.owned (λ v l. ⊎_elim (λ x. inl x) (λ x. inr (x.1, x.2)) (each v l))

  label_stays : (v : ℕ) → v < g.n → T (ltb (col b w v) g.n) → T (ltb (col b w₁ v) g.n)
  label_stays v l t = rw (alone_else v l (λ e. omega (arith, e, part, ltb→lt (col b w v) g.n t))) t

  alone_labels : labelled g b w ≤ labelled g b w₁
  alone_labels = many_mono (λ v. ltb (col b w v) g.n) (λ v. ltb (col b w₁ v) g.n) g.n label_stays

  -- a vertex that has gone has its label now
  alone_more : (v : ℕ) → v < g.n → col b w v ≡ q → (col b w₁ v ≡ q → ⊥) → labelled g b w < labelled g b w₁
  alone_more v l e o = many_more (λ v. ltb (col b w v) g.n) (λ v. ltb (col b w₁ v) g.n) g.n label_stays v l
      (λ t. omega (arith, e, part, ltb→lt (col b w v) g.n t))
      (lt→ltb (col b w₁ v) g.n (⊎_elim (λ x. absurd (o (x ∙ e))) (λ x. omega (arith, x.1)) (each v l)))

  alone_rings : rings g b w₁ ≤ rings g b w
  alone_rings = rings_alone (col b w) (col b w₁) alone_owned (λ v l t. ⊎_elim (λ x. inl x) (λ x. inr (x.1, x.2)) (each v l))

  alone_stage : Stage g b top w₁
  alone_stage = stage_moved w₁ s inside.low inside.high inside.long alone_owned (omega (arith, s.room, alone_labels))

  alone_was : (i : ℕ) → i < g.n → own g.n b w₁ i ≡ q → own g.n b w i ≡ q
  alone_was i l e = elim (ℕ_discrete (own g.n b w i) q) as (λ _. own g.n b w i ≡ q) [
    | yes y ↦ y
    | no y ↦ absurd (y (sym (alone_else (ord g.n b w i) (s.placed.low i l) y) ∙ ap (col b w₁) (sym (inside.high (order_at g.n b + i) (omega arith))) ∙ e))
  ]

-- THE PART AT h
module _ {g : Graph} {b h top : ℕ} {w : List ℕ} (st : Stage g b top w) (first : First g.n (own g.n b w) h) where
  first_low : ord g.n b w h < g.n
  first_low = st.placed.low h first.low

  first_known : own g.n b w h < top
  first_known = st.owned.below (ord g.n b w h) first_low

  -- it was made ready
  module _ {slicing : ℕ} {w₁ : List ℕ} (z : Made g slicing b (own g.n b w h) w w₁) where
    made_each : (v : ℕ) → v < g.n → (col b w₁ v ≡ col b w v) ⊎ ((col b w v ≡ own g.n b w h) × (col b w₁ v ≡ v) × Alone g v)
    made_each v l = ⊎_elim (λ y. trim_each st first.part y.1.1 v l) (λ y. inl (y.1.low (b + v) (omega arith))) z

    made_inside : Inside g.n b w w₁
    made_inside = ⊎_elim
        (λ y. let i = y.1.1.aside in record { low = i.low; mid = i.mid; high = λ j l. i.high j (omega arith); long = i.long })
        (λ y. let i = y.1 in record { low = λ j l. i.low j (omega arith); mid = λ j l m. i.low j m; high = λ j l. i.high j (omega arith); long = i.long }) z

    made_stage : Stage g b top w₁
    made_stage = alone_stage w₁ st first.part first_known made_inside made_each

-- THE WHOLE
module _ {g : Graph} {slicing b h top : ℕ} {w ws : List ℕ} (a : MethodAsk g slicing b h top w ws) where
  abbrev q : ℕ
  q = own g.n b w h

  st : Stage g b top w
  st = a.ask.stage

  part : g.n ≤ own g.n b w h
  part = a.ask.first.part

  low_h : ord g.n b w h < g.n
  low_h = first_low st a.ask.first

  known : own g.n b w h < top
  known = first_known st a.ask.first

  pub divide_make : MakeAsk g b h (own g.n b w h) w
  divide_make = record {
    trim = record {
      fwd = record { valid = st.tables.valid; few = st.tables.few; below = omega (arith, st.tables.below); index = st.tables.fwd };
      bwd = record { valid = valid_rev st.tables.valid; few = st.tables.few; below = omega (arith, st.tables.below); index = st.tables.bwd };
      small = st.tables.small;
      long = st.long;
      part = part;
      chain = record {
        placed = record { low = st.placed.low; all = st.placed.all };
        head = record { most = omega (arith, a.ask.first.low); here = λ t. refl; none = a.ask.first.none };
        next = a.ask.chain;
      };
    };
    prepare = record { small = st.tables.small; below = st.tables.below; long = st.long };
  }

  module _ {w₁ : List ℕ} (z : Made g slicing b (own g.n b w h) w w₁) where
    each₁ : (v : ℕ) → v < g.n → (col b w₁ v ≡ col b w v) ⊎ ((col b w v ≡ q) × (col b w₁ v ≡ v) × Alone g v)
    each₁ = made_each st a.ask.first z

    inside₁ : Inside g.n b w w₁
    inside₁ = made_inside st a.ask.first z

    pub divide_sweep : KindAsk g slicing b h (own g.n b w h) top w₁ ws
    divide_sweep = record {
      sweep = record {
        ready = record {
          stage = made_stage st a.ask.first z;
          part = part;
          known = known;
          uncut = λ o. ⊎_elim (λ y. absurd (y.0 o)) (λ y. record {
            room = omega (arith, a.only o, many_le (λ v. eqb (col b w₁ v) q) g.n);
            untouched = λ v l c. (y.1.marks v l, y.1.cursors v l ∙ st.tables.bwd.offs v (omega arith));
          }) z;
        };
        runs = record {
          past = own g.n b w;
          first = a.ask.first;
          live = refl;
          next = λ i l e. rw (inside₁.mid (chains_at g.n b + i) (omega arith) (omega arith)) (a.ask.chain i l e);
          still = alone_was w₁ st part known inside₁ each₁;
        };
      };
      blank = a.ask.blank;
    }

    module _ {kind state : ℕ} {w₂ ws₂ : List ℕ} {state' k top' : ℕ} (y : KindSwept g slicing b (own g.n b w h) kind state top w₁ ws w₂ ws₂ state' k top') where
      so_far : SweptSoFar g slicing b q top w₁ y.pivots top' w₂
      so_far = sweeps_so_far divide_sweep.sweep.ready y.sweeps

      labels₁ : labelled g b w ≤ labelled g b w₁
      labels₁ = alone_labels w₁ st part known inside₁ each₁

      -- the first vertex has gone alone, or it was taken by a pivot
      some₂ : (slicing ≡ 1 → ⊥) → labelled g b w < labelled g b w₂
      some₂ o = elim (ℕ_discrete (col b w₁ (ord g.n b w h)) q) as (λ _. labelled g b w < labelled g b w₂) [
        | yes c ↦ omega (arith, labels₁, so_far.few o, so_far.some (ord g.n b w h) c (y.gone (ord g.n b w h) low_h))
        | no c ↦ omega (arith, alone_more w₁ st part known inside₁ each₁ (ord g.n b w h) low_h refl c, so_far.few o)
      ]

      recoloured : Recoloured g b h top w w₂ top'
      recoloured = record {
        stage = so_far.ready.stage;
        more = so_far.least;
        others = λ v l o. let e = alone_else w₁ st part known inside₁ each₁ v l o in so_far.others v l (λ c. o (sym e ∙ c)) ∙ e;
        ours = λ v l e. elim (ℕ_discrete (col b w₁ v) q) as (λ _. (col b w₂ v < g.n) ⊎ (top ≤ col b w₂ v)) [
          | yes c ↦ ⊎_elim (λ m. absurd (y.gone v l m)) (λ m. m) (so_far.ours v l c)
          | no c ↦
              let f : col b w₁ v < g.n = ⊎_elim (λ x. absurd (c (x ∙ e))) (λ x. omega (arith, x.1)) (each₁ v l) in
              inl (omega (arith, f, so_far.others v l c))
        ];
        inside = touched_more inside₁ so_far.inside;
      }

      pub divide_share : ShareAsk g.n b top top' h w₂
      divide_share = hand_ask a.ask recoloured

      module _ {w₃ : List ℕ} {children : ℕ} (x : Sharing g.n b top top' w₂ g.n w₃ children) where
        c₃ : (v : ℕ) → v < g.n → col b w₃ v ≡ col b w₂ v
        c₃ = hand_colour a.ask recoloured x

        rings₃ : rings g b w₃ ≤ rings g b w₂
        rings₃ = rings_none g.n (col b w₂) (col b w₃) (λ v l m. inl (c₃ v l))

        rings₁ : rings g b w₁ ≤ rings g b w
        rings₁ = alone_rings w₁ st part known inside₁ each₁

        pub divide_all : Division g slicing b kind state h top w ws w₃ ws₂ state' k top' children
        divide_all = record {
          first = a.ask.first;
          handed = handed a.ask recoloured x y.blank y.beyond y.long;
          ready = w₁;
          made = z;
          swept = w₂;
          pivots = y.pivots;
          sweeps = y.sweeps;
          drawn = y.drawn;
          advanced = y.advanced;
          colours = c₃;
          most = omega (arith, so_far.left, many_le (λ v. eqb (col b w₁ v) q) g.n);
          many = omega (arith, rings₃, so_far.many, rings₁);
          few = λ o. omega (arith, labels_same g b w₂ w₃ c₃, so_far.few o, labels₁);
          some = λ o. omega (arith, labels_same g b w₂ w₃ c₃, some₂ o);
          alone = λ o. omega (arith, rings₃, so_far.alone o, rings₁);
        }

-- AS DOCUMENT 01 SAYS IT
module _ {g : Graph} {slicing b kind state h top : ℕ} {w ws w' ws' : List ℕ} {state' k top' children : ℕ} (list : List ℕ) (st : Stage g b top w)
    (d : Division g slicing b kind state h top w ws w' ws' state' k top' children) where
  -- the part's colour is neither a label nor a new one
  division_gone : (v : ℕ) → In g (col b w') (own g.n b w h) v → ⊥
  division_gone v (l, e) = elim (ℕ_discrete (col b w v) (own g.n b w h)) as (λ _. ⊥) [
    | yes c ↦ ⊎_elim (λ m. omega (arith, m, e, d.first.part)) (λ m. omega (arith, m, e, first_known st d.first)) (d.handed.ours v l c)
    | no c ↦ c (sym (d.handed.others v l c) ∙ e)
  ]

  pub division_divides : Arranged g.n (list_of kind list) (ord g.n b w) → kind ≤ 2
      → Divides g slicing (own g.n b w h) kind state list (col b w) top d.pivots (col b w') top'
  division_divides a most = record {
    ready = col b d.ready;
    made = ⊎_elim
        (λ y. inl (y.0, record { stays = y.1.1.stays; goes = λ v (l, e). y.1.1.goes v l e; others = y.1.1.else }))
        (λ y. inr (y.0, λ v l. y.1.low (b + v) (omega arith))) d.made;
    swept = col b d.swept;
    choices = sweeps_choices (made_stage st d.first d.made) list
        (arranged_same (λ i. (made_inside st d.first d.made).high (order_at g.n b + i) (omega arith)) a) most d.sweeps;
    end = d.colours;
    gone = division_gone;
  }
