-- Runs of moves of a walk, each as one move: locals are allocated and freed, a list of parameters is taken apart and put together, entries are let go.
use mathlib.Core.List.{List, [], ◌∷◌}
use Prim.Native.Nat.{ℕ, zero, suc, ◌+◌, ◌*◌}
use seplogic.Ra.Ura.{Ura}
use base.Fraction.{full_share}
use mir.Syntax.{Ty, Local, local}
use mir.Val.{Val}
use base.Logic.{SProp, ent, sep, emp, id⊢, via, mono_r, mono∗, emp∗, snd∗}
use base.Fml.{Fml, ftrue, fsep, fat, froom, fdies, flft}
use prog.Wp.{Heap, Env}
use types.Logic.{Logic, sem}
use contract.Lifetimes.{Lfts, Shares, toks}
use types.Kit.{Item, ‵, mean, ⋆, push, pop, pull, nth, del, Goal, allocs, frees, Seq, Step, step, ◌$◌, by, use1}
use types.Run.{alloc1, alloc0, free1, free0}
use denote.RattleType.{RattleType, Denots, Valss}

-- ---- locals
-- the addresses of a function's locals, its environment, and their room, the last local first
abbrev pub Addresses : List Local → Type 0
Addresses [] = Unit {0}
Addresses (l ∷ ls) = ℕ × Addresses ls

abbrev pub spots : {M : Type 1} (𝓤 : Ura M) (H : Heap 𝓤) (ls : List Local) → Addresses ls → Env 𝓤 H
spots 𝓤 H [] bs = []
spots 𝓤 H (local τ h ∷ ls) bs = (τ, bs.0) ∷ spots 𝓤 H ls bs.1

abbrev pub rooms : {M : Type 1} (𝓤 : Ura M) (ls : List Local) → Addresses ls → List (Item 𝓤) → List (Item 𝓤)
rooms 𝓤 [] bs Γ = Γ
rooms 𝓤 (local τ h ∷ ls) bs Γ = rooms 𝓤 ls bs.1 (‵ (froom τ bs.0 zero) ∷ ‵ (fdies τ bs.0) ∷ Γ)

pub allocated : {M : Type 1} {𝓤 : Ura M} {𝓛 : Logic 𝓤} {K : Type 0} → K → {ls : List Local} {Kt : Env 𝓤 𝓛.H → Goal 𝓤 𝓛.H} {Γ : List (Item 𝓤)}
    → ((bs : Addresses ls) → Seq K 𝓛 (rooms 𝓤 ls bs Γ) (Kt (spots 𝓤 𝓛.H ls bs))) → Seq K 𝓛 Γ (allocs ls Kt)
allocated t {ls = []} k = alloc0 t $ k tt
allocated {𝓤 = 𝓤} {𝓛 = 𝓛} t {ls = local τ h ∷ ls} {Kt} k = alloc1 t (λ b. allocated t {ls = ls} {Kt = λ E. Kt ((τ, b) ∷ E)} (λ bs. k (b, bs)))

-- where k locals stand from place p on, the first local first
abbrev pub locals : ℕ → ℕ → List ℕ
locals zero p = []
locals (suc k) p = (p + 2 * k) ∷ (p + 2 * k + 1) ∷ locals k p

-- a local in the context: its cell, full or bare, and the leave to free it
pub data Standing {M : Type 1} {𝓤 : Ura M} (τ : Ty) (b : ℕ) : Item 𝓤 → Item 𝓤 → Type 2 where
  full : {v : Val} → Standing τ b (‵ (fat full_share τ b zero v)) (‵ (fdies τ b))
  bare : Standing τ b (‵ (froom τ b zero)) (‵ (fdies τ b))

-- the context begins with the locals of E, and Γ' is what it has beside them
infixr 5 ◌and◌
pub data Locals {M : Type 1} {𝓤 : Ura M} : List (Ty × ℕ) → List (Item 𝓤) → List (Item 𝓤) → Type 2 where
  end : {Γ : List (Item 𝓤)} → Locals [] Γ Γ
  ◌and◌ : {τ : Ty} {b : ℕ} {E : List (Ty × ℕ)} {i j : Item 𝓤} {Γ Γ' : List (Item 𝓤)} → Standing τ b i j → Locals E Γ Γ' → Locals ((τ, b) ∷ E) (i ∷ j ∷ Γ) Γ'

module _ {M : Type 1} {𝓤 : Ura M} {𝓛 : Logic 𝓤} {K : Type 0} where
  open 𝓛 use {H}

  free_one : K → {τ : Ty} {b : ℕ} {i j : Item 𝓤} {E : Env 𝓤 H} {g : Goal 𝓤 H} {Γ : List (Item 𝓤)} → Standing τ b i j → Step K 𝓛 Γ (frees E g) (i ∷ j ∷ Γ) (frees ((τ, b) ∷ E) g)
  free_one t {τ} {b} (full {v}) = step (λ s. use1 𝓛 (‵ (froom τ b zero)) (𝓛.laws.at_room τ b zero v) $ free1 t $ s)
  free_one t bare = free1 t

  -- all locals are freed
  pub freed : K → {E : Env 𝓤 H} {g : Goal 𝓤 H} {Γ Γ' : List (Item 𝓤)} → Locals E Γ Γ' → Step K 𝓛 Γ' g Γ (frees E g)
  freed t end = free0 t
  freed t (s and ls) = step (λ k. free_one t s $ freed t ls $ k)

-- ---- entries let go: each place is counted after those before it are gone
module _ {M : Type 1} {𝓤 : Ura M} (𝓛 : Logic 𝓤) where
  abbrev pub without : List ℕ → List (Item 𝓤) → List (Item 𝓤)
  without [] Γ = Γ
  without (n ∷ ns) Γ = without ns (del 𝓛 n Γ)

  without⊢ : (ns : List ℕ) (Γ : List (Item 𝓤)) → ent 𝓤 (⋆ 𝓛 Γ) (⋆ 𝓛 (without ns Γ))
  without⊢ [] Γ = id⊢ 𝓤 (⋆ 𝓛 Γ)
  without⊢ (n ∷ ns) Γ =
      via 𝓤 (sep 𝓤 (mean 𝓛 (nth 𝓛 n Γ)) (⋆ 𝓛 (del 𝓛 n Γ))) (pull 𝓛 n Γ)
      (via 𝓤 (⋆ 𝓛 (del 𝓛 n Γ)) (snd∗ 𝓤 (mean 𝓛 (nth 𝓛 n Γ)) (⋆ 𝓛 (del 𝓛 n Γ))) (without⊢ ns (del 𝓛 n Γ)))

pub omit : {M : Type 1} {𝓤 : Ura M} {𝓛 : Logic 𝓤} {K : Type 0} {Γ : List (Item 𝓤)} {G : Goal 𝓤 𝓛.H} → K → (ns : List ℕ) → Step K 𝓛 (without 𝓛 ns Γ) G Γ G
omit {𝓤 = 𝓤} {𝓛 = 𝓛} {Γ = Γ} t ns = step (λ s. by t (via 𝓤 (⋆ 𝓛 (without 𝓛 ns Γ)) (without⊢ 𝓛 ns Γ) s.prf))

-- ---- formulas in a row, as those of a list of parameters
abbrev pub star : List Fml → Fml
star [] = ftrue
star (P ∷ Ps) = fsep P (star Ps)

abbrev pub each_of : (Rs : List RattleType) → Denots Rs → Valss Rs → List Fml
each_of [] a vss = []
each_of (R ∷ Rs) a vss = R.own_val a.0 vss.0 ∷ each_of Rs a.1 vss.1

module _ {M : Type 1} {𝓤 : Ura M} (𝓛 : Logic 𝓤) where
  open 𝓛 use {A}

  abbrev pub items : List Fml → List (Item 𝓤)
  items [] = []
  items (P ∷ Ps) = ‵ P ∷ items Ps

  pub items_out : (Ps : List Fml) → ent 𝓤 (sem 𝓛 (star Ps)) (⋆ 𝓛 (items Ps))
  items_out [] = id⊢ 𝓤 (emp 𝓤)
  items_out (P ∷ Ps) = via 𝓤 (sep 𝓤 (sem 𝓛 P) (⋆ 𝓛 (items Ps))) (mono_r 𝓤 (sem 𝓛 P) (items_out Ps)) (push 𝓛 (‵ P) (items Ps))

  -- where a formula comes from: it stands in the context, or it is made of a proof
  pub data Source (P : Fml) : Type 1 where
    here : Source P
    made : ent 𝓤 (emp 𝓤) (sem 𝓛 P) → Source P

  abbrev pub Sources : List Fml → Type 1
  Sources [] = Unit {1}
  Sources (P ∷ Ps) = Source P × Sources Ps

  abbrev pub next : (P : Fml) → Source P → List (Item 𝓤) → List (Item 𝓤)
  next P here Γ = ‵ P ∷ Γ
  next P (made e) Γ = Γ

  abbrev pub heads : (Ps : List Fml) → Sources Ps → List (Item 𝓤)
  heads [] ss = []
  heads (P ∷ Ps) ss = next P ss.0 (heads Ps ss.1)

  next_in : (P : Fml) (s : Source P) (Γ : List (Item 𝓤)) (Q : SProp 𝓤) → ent 𝓤 (⋆ 𝓛 Γ) Q → ent 𝓤 (⋆ 𝓛 (next P s Γ)) (sep 𝓤 (sem 𝓛 P) Q)
  next_in P here Γ Q h = via 𝓤 (sep 𝓤 (sem 𝓛 P) (⋆ 𝓛 Γ)) (pop 𝓛 (‵ P) Γ) (mono_r 𝓤 (sem 𝓛 P) h)
  next_in P (made e) Γ Q h = via 𝓤 (sep 𝓤 (emp 𝓤) (⋆ 𝓛 Γ)) (emp∗ 𝓤 (⋆ 𝓛 Γ)) (mono∗ 𝓤 e h)

  pub heads_in : (Ps : List Fml) (ss : Sources Ps) → ent 𝓤 (⋆ 𝓛 (heads Ps ss)) (sem 𝓛 (star Ps))
  heads_in [] ss = id⊢ 𝓤 (emp 𝓤)
  heads_in (P ∷ Ps) ss = next_in P ss.0 (heads Ps ss.1) (sem 𝓛 (star Ps)) (heads_in Ps ss.1)

  -- ---- the tokens of lifetimes
  abbrev pub tokens : (n : ℕ) → Lfts n → Shares n → List (Item 𝓤)
  tokens zero κs qs = []
  tokens (suc n) κs qs = ‵ (flft κs.0 qs.0) ∷ tokens n κs.1 qs.1

  pub tokens_in : (n : ℕ) (κs : Lfts n) (qs : Shares n) → ent 𝓤 (⋆ 𝓛 (tokens n κs qs)) (toks 𝓛 n κs qs)
  tokens_in zero κs qs = id⊢ 𝓤 (emp 𝓤)
  tokens_in (suc n) κs qs = via 𝓤 (sep 𝓤 (A.lft κs.0 qs.0) (⋆ 𝓛 (tokens n κs.1 qs.1))) (pop 𝓛 (‵ (flft κs.0 qs.0)) (tokens n κs.1 qs.1))
      (mono_r 𝓤 (A.lft κs.0 qs.0) (tokens_in n κs.1 qs.1))

  pub tokens_out : (n : ℕ) (κs : Lfts n) (qs : Shares n) → ent 𝓤 (toks 𝓛 n κs qs) (⋆ 𝓛 (tokens n κs qs))
  tokens_out zero κs qs = id⊢ 𝓤 (emp 𝓤)
  tokens_out (suc n) κs qs = via 𝓤 (sep 𝓤 (A.lft κs.0 qs.0) (⋆ 𝓛 (tokens n κs.1 qs.1))) (mono_r 𝓤 (A.lft κs.0 qs.0) (tokens_out n κs.1 qs.1))
      (push 𝓛 (‵ (flft κs.0 qs.0)) (tokens n κs.1 qs.1))

-- ---- locals between two turns of a loop: some hold a value, and the others are room
pub data Holds : Type 0 where
  held : Val → Holds
  empty : Holds

abbrev cell : {M : Type 1} (𝓤 : Ura M) → Ty → ℕ → Holds → Item 𝓤
cell 𝓤 τ b (held v) = ‵ (fat full_share τ b zero v)
cell 𝓤 τ b empty = ‵ (froom τ b zero)

-- the last local first
abbrev pub cells : {M : Type 1} (𝓤 : Ura M) (ls : List Local) → Addresses ls → List Holds → List (Item 𝓤) → List (Item 𝓤)
cells 𝓤 [] bs hs Γ = Γ
cells 𝓤 (l ∷ ls) bs [] Γ = Γ
cells 𝓤 (local τ h ∷ ls) bs (v ∷ hs) Γ = cells 𝓤 ls bs.1 hs (cell 𝓤 τ bs.0 v ∷ ‵ (fdies τ bs.0) ∷ Γ)

-- Γ' is Γ with some cells, each before another entry, made room
pub data Looser {M : Type 1} {𝓤 : Ura M} : List (Item 𝓤) → List (Item 𝓤) → Type 2 where
  rest : {Γ : List (Item 𝓤)} → Looser Γ Γ
  both : {i j : Item 𝓤} {Γ Γ' : List (Item 𝓤)} → Looser Γ Γ' → Looser (i ∷ j ∷ Γ) (i ∷ j ∷ Γ')
  lose : {τ : Ty} {b : ℕ} {v : Val} {j : Item 𝓤} {Γ Γ' : List (Item 𝓤)} → Looser Γ Γ' → Looser (‵ (fat full_share τ b zero v) ∷ j ∷ Γ) (‵ (froom τ b zero) ∷ j ∷ Γ')

module _ {M : Type 1} {𝓤 : Ura M} (𝓛 : Logic 𝓤) where
  pair⊢ : (i i' j : Item 𝓤) (Γ Γ' : List (Item 𝓤)) → ent 𝓤 (mean 𝓛 i) (mean 𝓛 i') → ent 𝓤 (⋆ 𝓛 Γ) (⋆ 𝓛 Γ') → ent 𝓤 (⋆ 𝓛 (i ∷ j ∷ Γ)) (⋆ 𝓛 (i' ∷ j ∷ Γ'))
  pair⊢ i i' j Γ Γ' e h = mono∗ 𝓤 e (via 𝓤 (sep 𝓤 (mean 𝓛 j) (⋆ 𝓛 Γ)) (pop 𝓛 j Γ) (via 𝓤 (sep 𝓤 (mean 𝓛 j) (⋆ 𝓛 Γ')) (mono_r 𝓤 (mean 𝓛 j) h) (push 𝓛 j Γ')))

  looser⊢ : {Γ Γ' : List (Item 𝓤)} → Looser Γ Γ' → ent 𝓤 (⋆ 𝓛 Γ) (⋆ 𝓛 Γ')
  looser⊢ {Γ} rest = id⊢ 𝓤 (⋆ 𝓛 Γ)
  looser⊢ (both {i} {j} {Γ} {Γ'} l) = pair⊢ i i j Γ Γ' (id⊢ 𝓤 (mean 𝓛 i)) (looser⊢ l)
  looser⊢ (lose {τ} {b} {v} {j} {Γ} {Γ'} l) = pair⊢ (‵ (fat full_share τ b zero v)) (‵ (froom τ b zero)) j Γ Γ' (𝓛.laws.at_room τ b zero v) (looser⊢ l)

pub loosen : {M : Type 1} {𝓤 : Ura M} {𝓛 : Logic 𝓤} {K : Type 0} {Γ Γ' : List (Item 𝓤)} {G : Goal 𝓤 𝓛.H} → K → Looser Γ Γ' → Step K 𝓛 Γ' G Γ G
loosen {𝓤 = 𝓤} {𝓛 = 𝓛} {Γ' = Γ'} t l = step (λ s. by t (via 𝓤 (⋆ 𝓛 Γ') (looser⊢ 𝓛 l) s.prf))
