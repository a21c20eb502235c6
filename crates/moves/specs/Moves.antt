-- The small moves of the search: what they ask for, and what they leave.
use Rattle.std.specs.Prelude.{ℕ, ◌+◌, ◌*◌, ◌-◌, ◌≤◌, ◌<◌, ◌≡◌, List, ◌⊎◌, length, get_or, set}
use Rattle.graph.specs.Limits.{most_vertices, most_edges}
use Rattle.moves.specs.declared.Stand.{Stand}

-- the path, its last and the end of its edges are as they were
pub record Stays (x r : Stand) : Type 0 where
  pub path : r.path ≡ x.path
  pub top : r.top ≡ x.top
  pub end : r.end ≡ x.end

-- the colour of v; where v's neighbours begin; the neighbour at place c of the index; who stands at place i of the stack
abbrev pub hue_of : List ℕ → ℕ → ℕ
hue_of l v = get_or l v 0

abbrev pub off_of : List ℕ → ℕ → ℕ
off_of w v = get_or w v 0

abbrev pub other_of : ℕ → List ℕ → ℕ → ℕ
other_of n w c = get_or w (n + 1 + c) 0

abbrev pub stack_of : ℕ → List ℕ → ℕ → ℕ
stack_of b w i = get_or w (b + i) 0

-- the colour of the first vertex of segment j
abbrev pub front_of : (n b : ℕ) → List ℕ → ℕ → ℕ
front_of n b w j = get_or w (b + n + j) 0

-- the vertex at place q of the path, if it is not the last, and its next edge
abbrev pub path_of : (n b : ℕ) → List ℕ → ℕ → ℕ
path_of n b w q = get_or w (b + 2 * n + 2 * q) 0

abbrev pub cursor_of : (n b : ℕ) → List ℕ → ℕ → ℕ
cursor_of n b w q = get_or w (b + 2 * n + 2 * q + 1) 0

pub record CutAsk (y : ℕ) (fronts : List ℕ) : Type 0 where
  pub some : 0 < length fronts
  pub first : get_or fronts 0 0 ≤ y

-- r of the fronts are left, the last at most y, and those taken off are greater
pub record Cut (y : ℕ) (fronts : List ℕ) (r : ℕ) : Type 0 where
  pub some : 0 < r
  pub most : r ≤ length fronts
  pub last : get_or fronts (r - 1) 0 ≤ y
  pub past : (j : ℕ) → r ≤ j → j < length fronts → y < get_or fronts j 0

pub record BoundAsk (n y : ℕ) (fronts : List ℕ) : Type 0 where
  pub some : 0 < length fronts
  pub first : n < y → get_or fronts 0 0 ≤ y
  pub seen : y ≡ n → ⊥

-- y is a done vertex's colour, and the fronts stay; or one of the stack, and those behind it are taken off
abbrev pub Bound : (n y : ℕ) → List ℕ → ℕ → Type 0
Bound n y fronts r = ((y < n) × (r ≡ length fronts)) ⊎ ((n < y) × Cut y fronts r)

-- r is the smallest of the numbers from a up to e
pub record Lowest (a e : ℕ) (w : List ℕ) (r : ℕ) : Type 0 where
  pub found : (j : ℕ) × (a ≤ j) × (j < e) × (r ≡ get_or w j 0)
  pub least : (j : ℕ) → a ≤ j → j < e → r ≤ get_or w j 0

pub record PaintAsk (a e : ℕ) (l w : List ℕ) : Type 0 where
  pub order : a ≤ e
  pub room : e ≤ length w
  pub vertex : (j : ℕ) → a ≤ j → j < e → get_or w j 0 < length l

-- who stands in w from a up to e has the colour x, and no one else's has changed
pub record Painted (a e x : ℕ) (w l l' : List ℕ) : Type 0 where
  pub long : length l' ≡ length l
  pub here : (j : ℕ) → a ≤ j → j < e → hue_of l' (get_or w j 0) ≡ x
  pub else : (v : ℕ) → ((j : ℕ) → a ≤ j → j < e → get_or w j 0 ≡ v → ⊥) → hue_of l' v ≡ hue_of l v

-- u is on a stack of s vertices with k fronts, and its colour says where
pub record CloseAsk (n b u s k : ℕ) (l w : List ℕ) : Type 0 where
  pub column : length l ≡ n
  pub room : b + 2 * n ≤ length w
  pub vertex : u < n
  pub above : n < hue_of l u
  pub below : hue_of l u < n + 1 + s
  pub stack : s ≤ n
  pub some : 0 < k
  pub fronts : k ≤ n
  pub low : (i : ℕ) → i < s → stack_of b w i < n

-- u begins no segment, and nothing has changed; or it begins the last, and those from its place on have their smallest for a colour
abbrev pub Closed : (n b u s k : ℕ) (w l l' : List ℕ) (t i : ℕ) → Type 0
Closed n b u s k w l l' t i =
    ((hue_of l u ≡ front_of n b w (k - 1) → ⊥) × (l' ≡ l) × (t ≡ s) × (i ≡ k))
    ⊎ ((hue_of l u ≡ front_of n b w (k - 1))
    × (t ≡ hue_of l u - (n + 1))
    × (i ≡ k - 1)
    × ((x : ℕ) × Lowest (b + t) (b + s) w x × Painted (b + t) (b + s) x w l l'))

pub record BeginAsk (n b r : ℕ) (l w : List ℕ) : Type 0 where
  pub small : n ≤ most_vertices
  pub column : length l ≡ n
  pub room : b + 4 * n ≤ length w
  pub vertex : r < n

-- r stands alone on the stack
abbrev pub begun_colours : (n r : ℕ) → List ℕ → List ℕ
begun_colours n r l = set l r (n + 1)

abbrev pub begun : (n b r : ℕ) → List ℕ → List ℕ
begun n b r w = set (set w b r) (b + n) (n + 1)

pub record EnterAsk (n b u d s k p : ℕ) (l w : List ℕ) : Type 0 where
  pub small : n ≤ most_vertices
  pub few : n + 1 + d < b
  pub edges : d ≤ most_edges
  pub column : length l ≡ n
  pub room : b + 4 * n ≤ length w
  pub vertex : u < n
  pub next : other_of n w d < n
  pub stack : s < n
  pub fronts : k < n
  pub some : 0 < p
  pub path : p < n

-- the neighbour at d gets the colour of place s of the stack
abbrev pub entered_colours : (n d s : ℕ) (w l : List ℕ) → List ℕ
entered_colours n d s w l = set l (other_of n w d) (n + 1 + s)

-- it stands on the stack and begins a segment; u is kept on the path with its next edge
abbrev pub entered : (n b u d s k p : ℕ) → List ℕ → List ℕ
entered n b u d s k p w =
    set (set (set (set w (b + s) (other_of n w d)) (b + n + k) (n + 1 + s)) (b + 2 * n + 2 * (p - 1)) u) (b + 2 * n + 2 * (p - 1) + 1) (d + 1)

-- and it is the path's last
abbrev pub entered_stand : (n d s k p steps : ℕ) → List ℕ → Stand
entered_stand n d s k p steps w =
    record {
      stack = s + 1;
      fronts = k + 1;
      path = p + 1;
      top = other_of n w d;
      cursor = off_of w (other_of n w d);
      end = off_of w (other_of n w d + 1);
      steps = steps;
    }

pub record BackAsk (n b p : ℕ) (w : List ℕ) : Type 0 where
  pub small : n ≤ most_vertices
  pub room : b + 4 * n ≤ length w
  pub some : 0 < p
  pub path : p ≤ n
  pub vertex : 1 < p → path_of n b w (p - 2) < n

-- the path is at its end; or the one before its last goes on
abbrev pub Backed : (n b s k p steps : ℕ) → List ℕ → Stand → Type 0
Backed n b s k p steps w r =
    ((p ≡ 1) × (r ≡ record { stack = s; fronts = k; path = 0; top = 0; cursor = 0; end = 0; steps = steps }))
    ⊎ ((1 < p)
    × (r ≡ record {
      stack = s;
      fronts = k;
      path = p - 1;
      top = path_of n b w (p - 2);
      cursor = cursor_of n b w (p - 2);
      end = off_of w (path_of n b w (p - 2) + 1);
      steps = steps;
    }))

pub record ScanAsk (n b c h k : ℕ) (l w : List ℕ) : Type 0 where
  pub small : n ≤ most_vertices
  pub column : length l ≡ n
  pub order : c ≤ h
  pub few : n + 1 + h ≤ b
  pub room : b + 2 * n ≤ length w
  pub some : 0 < k
  pub fronts : k ≤ n
  pub bottom : front_of n b w 0 ≡ n + 1
  pub next : (i : ℕ) → c ≤ i → i < h → other_of n w i < n

-- the edges from c up to d lead to vertices that are seen; f of k fronts are left, none behind one of them; d is the end, or leads to a vertex that is not seen
pub record Scanned (n b c h k : ℕ) (l w : List ℕ) (d f : ℕ) : Type 0 where
  pub more : c ≤ d
  pub most : d ≤ h
  pub some : 0 < f
  pub less : f ≤ k
  pub passed : (i : ℕ) → c ≤ i → i < d → (hue_of l (other_of n w i) < n) ⊎ ((n < hue_of l (other_of n w i)) × (front_of n b w (f - 1) ≤ hue_of l (other_of n w i)))
  pub joined : f < k → (i : ℕ) × (c ≤ i) × (i < d) × (n < hue_of l (other_of n w i)) × ((j : ℕ) → f ≤ j → j < k → hue_of l (other_of n w i) < front_of n b w j)
  pub unseen : d < h → hue_of l (other_of n w d) ≡ n
