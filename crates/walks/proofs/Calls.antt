-- What the walks of functions share beside their lines: how one begins, a call, and how one ends.
--     shown    a function meets its contract, from a walk that begins with what is required, what each parameter owns, and the tokens
--     asks     a call: what the parameters own and the tokens stand at the head, each in the callee's order; once it has returned, what is ensured, the last values and the tokens
--     ends     a walk ends: what is had of each parameter and the tokens stand at the head
use mathlib.Core.Path.{◌≡◌, refl, subst, sym, ap}
use Prim.Native.Nat.{ℕ}
use mathlib.Core.List.{List, [], ◌∷◌, ◌++◌}
use seplogic.Ra.Ura.{Ura}
use mir.Syntax.{Callee, Place, Opd as Operand, Body, seq, call, Fn}
use mir.Val.{Val}
use base.Logic.{SProp, ent, sep, emp, id⊢, via, mono∗, mono_l, mono_r, comm∗, assoc∗, fst∗, emp∗}
use base.Fml.{Fml, fsep}
use prog.Wp.{Env, Calls, Loops, Tables, WpFn}
use types.Logic.{Logic, sem}
use sound.WpLaws.{FmC, WpFn-mono}
use contract.Lifetimes.{Lfts, Shares, AllOutlive, toks}
use contract.Monad.{fact, fact_i}
use types.Kit.{Item, ‵, raw, some, later, ◌⊛◌, ⋆, ++⊢, ⊢++, push, Go, !, Goal, Soaks, prop, runs, lands, allocs, params', at_ret, Post, Seq, ◌$◌, cut, use1, await, pick, split, move}
use types.Run.{Opds, enter}
use denote.RattleType.{RattleType, Denots, Valss, owns, flat}
use denote.Laws.{Is, shows, Ises, Are, Spells, valss, Tellss, Tells}
use denote.Exit.{Exit, unchanged, leaves, Last, left}
use denote.Signature.{Slot, type_at, types_at}
use denote.Steps.{facts, only}
use denote.Triple.End.{Kepts, Fins, lasts_of}
use denote.Triple.Entry.{Args, alive, on_entry}
use denote.Triple.Bound.{Bound}
use denote.Triple.Spec.{Meets, triple_of}
use denote.Triple.Statement.{Contract, Triple}
use denote.Triple.Call.{calls_at}
use denote.Triple.Clauses.{Ended, Clauses, Lasts, at_exit, lasts, ensured, closing}
use denote.Triple.Walked.{Stays, Fit, has_of, AllGo, walk_of, ends_at, walked, walk_Meets}
use Rattle.walks.proofs.Moves.{star, each_of, items, items_out, Sources, heads, heads_in, tokens, tokens_in, tokens_out}

-- what is said at exit of each parameter that has a last value
abbrev pub last : {D : Type 0} (e : Exit D) (x : D) → Last e x → List Fml → List Fml
last unchanged x w Ps = Ps
last (leaves L l S s r₀) x w Ps = l x w ∷ Ps

abbrev pub lastly : {n : ℕ} (κs : Lfts n) (ss : List (Slot n)) (ks : Kepts ss) (a : Denots (types_at ss κs)) → Fins κs ss ks a → List Fml
lastly κs [] ks a ws = []
lastly κs (s ∷ ss) ks a ws = last ((s.row κs).exit ks.0) a.0 ws.0 (lastly κs ss ks.1 a.1 ws.1)

-- what is had of each parameter at the end of a walk
abbrev pub had : {n : ℕ} (κs : Lfts n) (ss : List (Slot n)) (ks : Kepts ss) → Stays ss ks → (a : Denots (types_at ss κs)) → Fins κs ss ks a → Valss (types_at ss κs) → List Fml
had κs [] ks hs a ws vss = []
had κs (s ∷ ss) ks hs a ws vss = hs.0.has κs a.0 ws.0 vss.0 ∷ had κs ss ks.1 hs.1 a.1 ws.1 vss.1

module _ {M : Type 1} {𝓤 : Ura M} (𝓛 : Logic 𝓤) where
  last_out : {D : Type 0} (e : Exit D) (x : D) (w : Last e x) (Ps : List Fml) (Q : SProp 𝓤) → ent 𝓤 Q (⋆ 𝓛 (items 𝓛 Ps)) → ent 𝓤 (sep 𝓤 (sem 𝓛 (left e x w)) Q)
      (⋆ 𝓛 (items 𝓛 (last e x w Ps)))
  last_out unchanged x w Ps Q h = via 𝓤 Q (via 𝓤 (sep 𝓤 Q (emp 𝓤)) (comm∗ 𝓤 (emp 𝓤) Q) (fst∗ 𝓤 Q (emp 𝓤))) h
  last_out (leaves L l S s r₀) x w Ps Q h = via 𝓤 (sep 𝓤 (sem 𝓛 (l x w)) (⋆ 𝓛 (items 𝓛 Ps))) (mono_r 𝓤 (sem 𝓛 (l x w)) h) (push 𝓛 (‵ (l x w)) (items 𝓛 Ps))

  lastly_out : {n : ℕ} (κs : Lfts n) (ss : List (Slot n)) (ks : Kepts ss) (a : Denots (types_at ss κs)) (ws : Fins κs ss ks a)
      → ent 𝓤 (sem 𝓛 (lasts_of κs ss ks a ws)) (⋆ 𝓛 (items 𝓛 (lastly κs ss ks a ws)))
  lastly_out κs [] ks a ws = id⊢ 𝓤 (emp 𝓤)
  lastly_out κs (s ∷ ss) ks a ws =
      last_out ((s.row κs).exit ks.0) a.0 ws.0 (lastly κs ss ks.1 a.1 ws.1) (sem 𝓛 (lasts_of κs ss ks.1 a.1 ws.1)) (lastly_out κs ss ks.1 a.1 ws.1)

  owns_star : (Rs : List RattleType) (a : Denots Rs) (vss : Valss Rs) → star (each_of Rs a vss) ≡ owns Rs a vss
  owns_star [] a vss = refl
  owns_star (R ∷ Rs) a vss = ap (fsep (R.own_val a.0 vss.0)) (owns_star Rs a.1 vss.1)

  had_star : {n : ℕ} (κs : Lfts n) (ss : List (Slot n)) (ks : Kepts ss) (hs : Stays ss ks) (a : Denots (types_at ss κs)) (ws : Fins κs ss ks a) (vss : Valss (types_at ss κs))
      → star (had κs ss ks hs a ws vss) ≡ has_of κs ss ks hs a ws vss
  had_star κs [] ks hs a ws vss = refl
  had_star κs (s ∷ ss) ks hs a ws vss = ap (fsep (hs.0.has κs a.0 ws.0 vss.0)) (had_star κs ss ks.1 hs.1 a.1 ws.1 vss.1)

  -- what stands at the head, and the tokens
  paid : (Ps : List Fml) (F : Fml) → star Ps ≡ F → (ss : Sources 𝓛 Ps) (n : ℕ) (κs : Lfts n) (qs : Shares n) → ent 𝓤 (⋆ 𝓛 (heads 𝓛 Ps ss ++ tokens 𝓛 n κs qs))
      (sep 𝓤 (toks 𝓛 n κs qs) (sem 𝓛 F))
  paid Ps F e ss n κs qs =
      via 𝓤 (sep 𝓤 (⋆ 𝓛 (heads 𝓛 Ps ss)) (⋆ 𝓛 (tokens 𝓛 n κs qs))) (⊢++ 𝓛 (heads 𝓛 Ps ss) (tokens 𝓛 n κs qs))
      (via 𝓤 (sep 𝓤 (sem 𝓛 F) (toks 𝓛 n κs qs)) (mono∗ 𝓤 (subst (λ (P : Fml). ent 𝓤 (⋆ 𝓛 (heads 𝓛 Ps ss)) (sem 𝓛 P)) e (heads_in 𝓛 Ps ss)) (tokens_in 𝓛 n κs qs))
      (comm∗ 𝓤 (sem 𝓛 F) (toks 𝓛 n κs qs)))

  -- what parameters own and the tokens, each an entry
  apart : (Rs : List RattleType) (a : Denots Rs) (vss : Valss Rs) (n : ℕ) (κs : Lfts n) (qs : Shares n) → ent 𝓤 (sep 𝓤 (toks 𝓛 n κs qs) (sem 𝓛 (owns Rs a vss)))
      (⋆ 𝓛 (items 𝓛 (each_of Rs a vss) ++ tokens 𝓛 n κs qs))
  apart Rs a vss n κs qs =
      via 𝓤 (sep 𝓤 (sem 𝓛 (owns Rs a vss)) (toks 𝓛 n κs qs)) (comm∗ 𝓤 (toks 𝓛 n κs qs) (sem 𝓛 (owns Rs a vss)))
      (via 𝓤 (sep 𝓤 (⋆ 𝓛 (items 𝓛 (each_of Rs a vss))) (⋆ 𝓛 (tokens 𝓛 n κs qs)))
      (mono∗ 𝓤 (subst (λ (P : Fml). ent 𝓤 (sem 𝓛 P) (⋆ 𝓛 (items 𝓛 (each_of Rs a vss)))) (owns_star Rs a vss) (items_out 𝓛 (each_of Rs a vss))) (tokens_out 𝓛 n κs qs))
      (++⊢ 𝓛 (items 𝓛 (each_of Rs a vss)) (tokens 𝓛 n κs qs)))

  -- something had for nothing
  beside : (P Q : SProp 𝓤) → ent 𝓤 (emp 𝓤) Q → ent 𝓤 P (sep 𝓤 P Q)
  beside P Q h = via 𝓤 (sep 𝓤 (emp 𝓤) P) (emp∗ 𝓤 P) (via 𝓤 (sep 𝓤 Q P) (mono_l 𝓤 P h) (comm∗ 𝓤 Q P))

  -- a fact that is known
  pub know : (φ : Type 0) → φ → ent 𝓤 (emp 𝓤) (fact 𝓤 φ)
  know φ x = fact_i 𝓤 φ (emp 𝓤) x

-- a callee's contract, and at one choice y of what it binds: what its parameters own, its tokens, what it requires and ensures, and what is said of its last values
module _ {M : Type 1} {𝓤 : Ura M} (𝓛 : Logic 𝓤) (T : Ended) (c : Clauses 𝓤 T) where
  abbrev pub Agreed : Contract 𝓤
  Agreed = triple_of 𝓛 T.signature (closing 𝓛 T c)

  module _ (y : (x : Bound 𝓛 T.signature) × (c x.0 x.3).ghost) where
    abbrev pub Result : RattleType
    Result = type_at T.signature.result y.0.0

    abbrev pub brought : List Fml
    brought = each_of (types_at T.signature.params y.0.0) y.0.3 y.0.4

    abbrev pub alives : List (Item 𝓤)
    alives = tokens 𝓛 T.signature.lifetimes y.0.0 y.0.1

    abbrev pub Required : SProp 𝓤
    Required = (c y.0.0 y.0.3).requires y.1

    abbrev pub Ensured : Result.Denot → Lasts T y.0.0 y.0.3 → SProp 𝓤
    Ensured r ws = (c y.0.0 y.0.3).ensures y.1 r (at_exit T y.0.0 y.0.3 ws)

    abbrev pub left_at : Lasts T y.0.0 y.0.3 → List (Item 𝓤)
    left_at ws = items 𝓛 (lastly y.0.0 T.signature.params T.kept y.0.3 ws)

    entry : (ss : Sources 𝓛 brought) → ent 𝓤 (emp 𝓤) Required → ent 𝓤 (⋆ 𝓛 (heads 𝓛 brought ss ++ alives)) (Agreed.pre y)
    entry ss req =
        via 𝓤 (sep 𝓤 (emp 𝓤) (⋆ 𝓛 (heads 𝓛 brought ss ++ alives))) (emp∗ 𝓤 (⋆ 𝓛 (heads 𝓛 brought ss ++ alives)))
        (via 𝓤 (sep 𝓤 Required (on_entry 𝓛 T.signature y.0.0 y.0.1 y.0.3 y.0.4))
        (mono∗ 𝓤 req (paid 𝓛 brought _ (owns_star 𝓛 (types_at T.signature.params y.0.0) y.0.3 y.0.4) ss T.signature.lifetimes y.0.0 y.0.1))
        (comm∗ 𝓤 Required (on_entry 𝓛 T.signature y.0.0 y.0.1 y.0.3 y.0.4)))

    returned : (r : Result.Denot) (ws : Lasts T y.0.0 y.0.3) → ent 𝓤 (sep 𝓤 (Ensured r ws) (sep 𝓤 (sem 𝓛 (lasts T y.0.0 y.0.3 ws))
        (alive 𝓛 T.signature y.0.0 y.0.1))) (⋆ 𝓛 (raw (Ensured r ws) ∷ (left_at ws ++ alives)))
    returned r ws =
        via 𝓤 (sep 𝓤 (Ensured r ws) (⋆ 𝓛 (left_at ws ++ alives)))
        (mono_r 𝓤 (Ensured r ws) (via 𝓤 (sep 𝓤 (⋆ 𝓛 (left_at ws)) (⋆ 𝓛 alives)) (mono∗ 𝓤 (lastly_out 𝓛 y.0.0 T.signature.params T.kept y.0.3 ws)
        (tokens_out 𝓛 T.signature.lifetimes y.0.0 y.0.1)) (++⊢ 𝓛 (left_at ws) alives)))
        (push 𝓛 (raw (Ensured r ws)) (left_at ws ++ alives))

module _ {M : Type 1} {𝓤 : Ura M} {K : Type 0} (𝓛 : Logic 𝓤) {Γ : List (Item 𝓤)} (T : Ended) (c : Clauses 𝓤 T) where
  -- what a call gives back
  open 𝓛 use {H}

  received : K → (y : (Agreed 𝓛 T c).Ghost) (val : (Result 𝓛 T c y).Denot → Val) → Tells (Result 𝓛 T c y) (Is (Result 𝓛 T c y)) (λ r. val r ∷ []) → (G : Val → Goal 𝓤 H) →
      ((w : Val) → Soaks (G w))
      → ((r : (Result 𝓛 T c y).Denot) (ws : Lasts T y.0.0 y.0.3) → Is (Result 𝓛 T c y) r (val r ∷ []) → Seq K 𝓛
      ((raw (Ensured 𝓛 T c y r ws) ∷ (left_at 𝓛 T c y ws ++ alives 𝓛 T c y)) ++ Γ) (G (val r)))
      → (w : Val) → Seq K 𝓛 (raw ((Agreed 𝓛 T c).post y w) ∷ Γ) (G w)
  received t y val tells G soaks k w =
      use1 𝓛 (later (some (λ (r : (Result 𝓛 T c y).Denot). (raw (alive 𝓛 T.signature y.0.0 y.0.1) ⊛ ‵ ((Result 𝓛 T c y).own_val r (w ∷ []))) ⊛ raw
      (ensured 𝓛 T c y.0.0 y.0.3 y.1 r)))) (id⊢ 𝓤 _) $ await t (soaks w) $ pick t (λ r. split t $ split t $
      move t (1 ∷ []) $ facts t (Result 𝓛 T c y) (Is (Result 𝓛 T c y)) (shows 𝓛 (Result 𝓛 T c y)) r (w ∷ []) (λ is.
      move t (1 ∷ []) $ use1 𝓛 (some (λ (ws : Lasts T y.0.0 y.0.3). ‵ (lasts T y.0.0 y.0.3 ws) ⊛ raw (Ensured 𝓛 T c y r ws))) (id⊢ 𝓤 _) $ pick t (λ ws. split t $
      move t (1 ∷ 0 ∷ []) $
      cut (raw (Ensured 𝓛 T c y r ws) ∷ ‵ (lasts T y.0.0 y.0.3 ws) ∷ raw (alive 𝓛 T.signature y.0.0 y.0.1) ∷ [])
      (raw (Ensured 𝓛 T c y r ws) ∷ (left_at 𝓛 T c y ws ++ alives 𝓛 T c y)) Γ (returned 𝓛 T c y r ws) $
      subst (λ (u : Val). Is (Result 𝓛 T c y) r (u ∷ []) → Seq K 𝓛 ((raw (Ensured 𝓛 T c y r ws) ∷ (left_at 𝓛 T c y ws ++ alives 𝓛 T c y)) ++ Γ) (G u))
      (sym (ap only (tells r (w ∷ []) is))) (k r ws) is)))

  module _ {E : Env 𝓤 H} {C : Calls 𝓤 H} {Λ : Loops 𝓤 H} {q : Post 𝓤 H} {d : Place} {f : Callee} {xs : List Operand} where
    pub asks : {rest : Body} → FmC 𝓤 H 𝓛.laws C → Triple 𝓤 (C f) (Agreed 𝓛 T c) → (y : (Agreed 𝓛 T c).Ghost) (ss : Sources 𝓛 (brought 𝓛 T c y)) → ent 𝓤 (emp 𝓤) (Required 𝓛 T c y)
        → (val : (Result 𝓛 T c y).Denot → Val) → Tells (Result 𝓛 T c y) (Is (Result 𝓛 T c y)) (λ r. val r ∷ []) → K → Opds K 𝓛 (raw ((Agreed 𝓛 T c).pre y) ∷ Γ) E xs
        ((Agreed 𝓛 T c).args y)
        → ((r : (Result 𝓛 T c y).Denot) (ws : Lasts T y.0.0 y.0.3) → Is (Result 𝓛 T c y) r (val r ∷ [])
        → Seq K 𝓛 ((raw (Ensured 𝓛 T c y r ws) ∷ (left_at 𝓛 T c y ws ++ alives 𝓛 T c y)) ++ Γ) (lands C Λ E d (val r) rest q))
        → Seq K 𝓛 ((heads 𝓛 (brought 𝓛 T c y) ss ++ alives 𝓛 T c y) ++ Γ) (runs C Λ E (seq (call f xs d) rest) q)
    asks {rest} fm known y ss req val tells t os k =
        cut (heads 𝓛 (brought 𝓛 T c y) ss ++ alives 𝓛 T c y) (raw ((Agreed 𝓛 T c).pre y) ∷ []) Γ (entry 𝓛 T c y ss req) $
        calls_at t fm (Agreed 𝓛 T c) known y os (received t y val tells (λ w. lands C Λ E d w rest q) (λ w. tt) k)

-- the end of a walk: nothing but what is had and the tokens stands in the context
pub ends : {M : Type 1} {𝓤 : Ura M} {K : Type 0} (𝓛 : Logic 𝓤) (T : Ended) (c : Clauses 𝓤 T) (hs : Stays T.signature.params T.kept)
    (y : (walk_of 𝓛 T hs c).Ghost) (v : Val) (r : (Result 𝓛 T c y).Denot) (ws : Lasts T y.0.0 y.0.3) → Fit T hs y.0.0 y.0.3 ws
    → ent 𝓤 (emp 𝓤) (Ensured 𝓛 T c y r ws) → (ss : Sources 𝓛 (had y.0.0 T.signature.params T.kept hs y.0.3 ws y.0.4)) → ent 𝓤 (emp 𝓤)
    (sem 𝓛 ((Result 𝓛 T c y).own_val r (v ∷ [])))
    → Seq K 𝓛 (heads 𝓛 (had y.0.0 T.signature.params T.kept hs y.0.3 ws y.0.4) ss ++ alives 𝓛 T c y) (prop ((walk_of 𝓛 T hs c).post y v))
ends {𝓤 = 𝓤} 𝓛 T c hs y v r ws fits said ss own =
    let Ps : List Fml = had y.0.0 T.signature.params T.kept hs y.0.3 ws y.0.4 in
    let L : SProp 𝓤 = alive 𝓛 T.signature y.0.0 y.0.1 in
    let B : SProp 𝓤 = sem 𝓛 (has_of y.0.0 T.signature.params T.kept hs y.0.3 ws y.0.4) in
    let O : SProp 𝓤 = sem 𝓛 ((Result 𝓛 T c y).own_val r (v ∷ [])) in
    record {
      prf =
          via 𝓤 (sep 𝓤 L B) (paid 𝓛 Ps _ (had_star 𝓛 y.0.0 T.signature.params T.kept hs y.0.3 ws y.0.4) ss T.signature.lifetimes y.0.0 y.0.1)
          (via 𝓤 (sep 𝓤 (sep 𝓤 L B) O) (beside 𝓛 (sep 𝓤 L B) O own)
          (via 𝓤 (sep 𝓤 L (sep 𝓤 B O)) (assoc∗ 𝓤 L B O)
          (via 𝓤 (sep 𝓤 (sep 𝓤 L (sep 𝓤 B O)) (Ensured 𝓛 T c y r ws)) (beside 𝓛 (sep 𝓤 L (sep 𝓤 B O)) (Ensured 𝓛 T c y r ws) said) (ends_at 𝓛 T hs c y v r ws fits))));
    }

-- a function's MIR meets its contract, by a walk
pub shown : {M : Type 1} {𝓤 : Ura M} (𝓛 : Logic 𝓤) (T : Ended) (hs : Stays T.signature.params T.kept) → AllGo 𝓛 T.signature.lifetimes
    T.signature.params T.kept hs → (c : Clauses 𝓤 T) (𝓣 : Tables 𝓤 𝓛.H) (e : Fn)
    (sp : (κs : Lfts T.signature.lifetimes) → Spells (types_at T.signature.params κs)) → ((κs : Lfts T.signature.lifetimes) → Tellss (types_at T.signature.params κs)
    (Ises (types_at T.signature.params κs)) (sp κs))
    → ((κs : Lfts T.signature.lifetimes) (qs : Shares T.signature.lifetimes) (bounds : AllOutlive T.signature.lifetimes T.signature.outlives κs) (a : Args T.signature κs)
    (g : (c κs a).ghost)
    → Are (types_at T.signature.params κs) (Ises (types_at T.signature.params κs)) a (valss (types_at T.signature.params κs) (sp κs) a)
    → Seq (Go {0}) 𝓛 (raw ((c κs a).requires g) ∷ (items 𝓛 (each_of (types_at T.signature.params κs) a (valss (types_at T.signature.params κs) (sp κs) a)) ++ tokens 𝓛
    T.signature.lifetimes κs qs))
    (allocs e.locals (λ E. params' E (flat (types_at T.signature.params κs) (valss (types_at T.signature.params κs) (sp κs) a))
    (runs 𝓣.C 𝓣.Λ E e.body (at_ret E ((walk_of 𝓛 T hs c).post ((κs, qs, bounds, a, valss (types_at T.signature.params κs) (sp κs) a), g)))))))
    → Meets 𝓛 T.signature (WpFn 𝓤 𝓛.H 𝓣.C 𝓣.Λ e) (closing 𝓛 T c)
shown {𝓤 = 𝓤} 𝓛 T hs gs c 𝓣 e sp tl k =
    walk_Meets 𝓛 T hs gs c (WpFn 𝓤 𝓛.H 𝓣.C 𝓣.Λ e) (WpFn-mono 𝓤 𝓛.H 𝓛.laws 𝓣 e) (walked 𝓛 T hs c (WpFn 𝓤 𝓛.H 𝓣.C 𝓣.Λ e) sp tl (λ κs qs bounds a g are.
    let Rs : List RattleType = types_at T.signature.params κs in
    let vss : Valss Rs = valss Rs (sp κs) a in
    let n : ℕ = T.signature.lifetimes in
    via 𝓤 (⋆ 𝓛 (raw ((c κs a).requires g) ∷ (items 𝓛 (each_of Rs a vss) ++ tokens 𝓛 n κs qs)))
    (via 𝓤 (sep 𝓤 ((c κs a).requires g) (⋆ 𝓛 (items 𝓛 (each_of Rs a vss) ++ tokens 𝓛 n κs qs)))
    (via 𝓤 (sep 𝓤 ((c κs a).requires g) (on_entry 𝓛 T.signature κs qs a vss)) (comm∗ 𝓤 (on_entry 𝓛 T.signature κs qs a vss) ((c κs a).requires g))
    (mono_r 𝓤 ((c κs a).requires g) (apart 𝓛 Rs a vss n κs qs)))
    (push 𝓛 (raw ((c κs a).requires g)) (items 𝓛 (each_of Rs a vss) ++ tokens 𝓛 n κs qs)))
    (enter ! 𝓣.C 𝓣.Λ e (flat Rs vss) _ $ k κs qs bounds a g are).prf))
