-- One pass along a part's chain of places hands its places to the chains of their new colours; the first place of each new part is pending.
use Rattle.std.specs.Prelude.{ℕ, ◌+◌, ◌*◌, ◌≤◌, ◌<◌, ◌≡◌, List, ◌⊎◌, length, get_or, set}
use Rattle.graph.specs.Limits.{most_vertices}
use Rattle.memory.specs.Decomposer.{ord, own, nxt, lst, head, chains_at, order_at, pending_at}
use Rattle.split.specs.Chain.{Follows, First}

pub record LinkAsk (n b i c k : ℕ) (w : List ℕ) : Type 0 where
  pub small : n ≤ most_vertices
  pub fits : b + 10 * n + 2 ≤ length w
  pub low : i < n
  pub part : n ≤ c
  pub most : c < 4 * n + 2
  pub room : n ≤ lst n b w c → k < n

-- Place i is the last of the part c: it stands behind the one that was last, or c is pending.
abbrev pub Linked : ℕ → ℕ → ℕ → ℕ → ℕ → List ℕ → List ℕ → ℕ → Type 0
Linked n b i c k w w' k' =
    ((lst n b w c < n) × (w' ≡ set (set (set w (chains_at n b + c) i) (chains_at n b + i) n) (chains_at n b + lst n b w c) i) × (k' ≡ k))
    ⊎ ((n ≤ lst n b w c) × (w' ≡ set (set (set w (chains_at n b + c) i) (chains_at n b + i) n) (pending_at n b + k) i) × (k' ≡ k + 1))

pub record HangAsk (n b i k : ℕ) (w : List ℕ) : Type 0 where
  pub small : n ≤ most_vertices
  pub fits : b + 10 * n + 2 ≤ length w
  pub low : i < n
  pub vertex : ord n b w i < n
  pub link : n ≤ own n b w i → LinkAsk n b i (own n b w i) k w

-- A place whose vertex has its label is left out.
abbrev pub Hung : ℕ → ℕ → ℕ → ℕ → List ℕ → List ℕ → ℕ → Type 0
Hung n b i k w w' k' = ((own n b w i < n) × (w' ≡ w) × (k' ≡ k)) ⊎ ((n ≤ own n b w i) × Linked n b i (own n b w i) k w w' k')

-- of the places below i: y is the next of u's colour, or n if there is none yet
abbrev pub UpTo : ℕ → (ℕ → ℕ) → ℕ → ℕ → ℕ → Type 0
UpTo n own i u y = (u < y) × (((y ≡ n) × ((x : ℕ) → u < x → x < i → own x ≡ own u → ⊥)) ⊎ ((y < i) × (own y ≡ own u) × ((x : ℕ) → u < x → x < y → own x ≡ own u → ⊥)))

-- of the places below i: t is the last of the colour c, n or more if there is none
abbrev pub Last : ℕ → (ℕ → ℕ) → ℕ → ℕ → ℕ → Type 0
Last n own i c t = ((n ≤ t) × ((x : ℕ) → x < i → own x ≡ c → ⊥)) ⊎ ((t < i) × (own t ≡ c) × ((x : ℕ) → t < x → x < i → own x ≡ c → ⊥))

-- The new parts are base .. lim - 1. The places below i have been handed out; k parts are pending.
pub record Sharing (n b base lim : ℕ) (w₀ : List ℕ) (i : ℕ) (w : List ℕ) (k : ℕ) : Type 0 where
  pub low : (j : ℕ) → j < chains_at n b → get_or w j 0 ≡ get_or w₀ j 0
  pub high : (j : ℕ) → order_at n b ≤ j → get_or w j 0 ≡ get_or w₀ j 0
  pub long : length w ≡ length w₀
  pub next : (u : ℕ) → u < i → base ≤ own n b w₀ u → UpTo n (own n b w₀) i u (nxt n b w u)
  pub rest : (u : ℕ) → u < n → (i ≤ u) ⊎ (own n b w₀ u < base) → nxt n b w u ≡ nxt n b w₀ u
  pub last : (c : ℕ) → base ≤ c → c < lim → Last n (own n b w₀) i c (lst n b w c)
  pub above : (c : ℕ) → lim ≤ c → c < 4 * n + 2 → lst n b w c ≡ lst n b w₀ c
  pub heads : (j : ℕ) → j < k → First n (own n b w₀) (head n b w j) × (base ≤ own n b w₀ (head n b w j)) × (head n b w j < i)
  pub all : (u : ℕ) → u < i → base ≤ own n b w₀ u → (j : ℕ) × (j < k) × (own n b w₀ (head n b w j) ≡ own n b w₀ u)
  pub apart : (j l : ℕ) → j < l → l < k → own n b w₀ (head n b w j) ≡ own n b w₀ (head n b w l) → ⊥

pub record ShareAsk (n b base lim h : ℕ) (w : List ℕ) : Type 0 where
  pub small : n ≤ most_vertices
  pub fits : b + 10 * n + 2 ≤ length w
  pub order : n < base
  pub least : base ≤ lim
  pub most : lim ≤ 4 * n + 2
  pub vertex : (i : ℕ) → i < n → ord n b w i < n
  -- the part as it was: the chain through it from h on
  pub past : ℕ → ℕ
  pub first : First n past h
  pub chain : (i : ℕ) → i < n → past i ≡ past h → Follows n past i (nxt n b w i)
  pub ours : (i : ℕ) → i < n → base ≤ own n b w i → past i ≡ past h
  pub split : (i : ℕ) → i < n → past i ≡ past h → (own n b w i < n) ⊎ (base ≤ own n b w i)
  pub below : (i : ℕ) → i < n → own n b w i < lim
  pub none : (c : ℕ) → base ≤ c → c < lim → n ≤ lst n b w c
