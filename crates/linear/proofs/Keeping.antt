-- What a step keeps, and functions with one place put anew.
use Prim.Native.Nat.{ℕ, suc, ◌+◌, ◌*◌, ◌≤◌, ◌<◌}
use native.Mathlib.Omega.{arith}
use mathlib.Core.Path.{◌≡◌, refl, ◌∙◌}
use mathlib.Core.List.{List}
use lib.Dec.{eqb, eqb→eq}
use lib.ListN.{length}
use Rattle.graph.specs.Graph.{Graph, edges}
use Rattle.graph.proofs.Tests.{cond_true, cond_false, eq_t}
use Rattle.index.proofs.Moved.{adjacent_same}
use Rattle.memory.specs.Memory.{Framed}
use Rattle.memory.proofs.Memory.{framed_none, framed_more}
use Rattle.moves.specs.declared.Stand.{Stand}
use Rattle.linear.specs.Path.{Setting, Between}
use Rattle.moves.specs.Moves.{hue_of, off_of, other_of, stack_of, front_of}
use Rattle.linear.specs.Search.{onto, path_at, cursor_at, left_of, Searching, Kept}

pub kept_none : (n b : ℕ) (l w : List ℕ) → Kept n b l w l w
kept_none n b l w = record { frame = framed_none b (b + 4 * n) w; long = refl; seen = λ v m e. e }

pub kept_more : {n b : ℕ} {l w l₁ w₁ l₂ w₂ : List ℕ} → Kept n b l w l₁ w₁ → Kept n b l₁ w₁ l₂ w₂ → Kept n b l w l₂ w₂
kept_more x y = record { frame = framed_more x.frame y.frame; long = y.long ∙ x.long; seen = λ v m e. x.seen v m (y.seen v m e) }

pub onto_here : (p y : ℕ) (f : ℕ → ℕ) → onto p y f p ≡ y
unfolding onto
onto_here p y f = cond_true {A = ℕ} (eqb p p) y (f p) (eq_t p p refl)

pub onto_other : (p y : ℕ) (f : ℕ → ℕ) (q : ℕ) → (q ≡ p → ⊥) → onto p y f q ≡ f q
unfolding onto
onto_other p y f q o = cond_false {A = ℕ} (eqb q p) y (f q) (λ t. o (eqb→eq q p t))

-- STORES from b on leave the index
module _ {g : Graph} {b : ℕ} {x : Stand} {l w : List ℕ} (y : Searching g b x l w) {w' : List ℕ} (f : Framed b (b + 4 * g.n) w w') where
  pub offs_same : (v : ℕ) → v ≤ g.n → off_of w' v ≡ off_of w v
  offs_same v m = f.low v (omega (arith, y.behind))

  pub others_same : (c : ℕ) → c < edges g → other_of g.n w' c ≡ other_of g.n w c
  others_same c m = f.low (g.n + 1 + c) (omega (arith, y.behind))

  pub setting_same : Setting g (off_of w') (other_of g.n w')
  setting_same = record { valid = y.setting.valid; index = adjacent_same g (off_of w) (other_of g.n w) (off_of w') (other_of g.n w') offs_same others_same y.setting.index }

  -- the search stands at r
  pub searching : (r : Stand) (l' : List ℕ) → length l' ≡ length l → (0 < r.path → r.end ≡ off_of w' (suc r.top))
      → Between g (off_of w') (other_of g.n w') r.stack r.fronts r.path (hue_of l') (stack_of b w') (front_of g.n b w') (path_at g.n b r w') (cursor_at g.n b r w')
      → left_of g.n b r l' w' ≤ left_of g.n b x l w → Searching g b r l' w'
  searching r l' e h z d =
      record {
        setting = setting_same;
        small = y.small;
        few = y.few;
        behind = y.behind;
        room = omega (arith, y.room, f.long);
        column = e ∙ y.column;
        ends = h;
        between = z;
        bound = omega (arith, y.bound);
      }
