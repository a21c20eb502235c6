-- Kinds and mask: what the mask has, and the table where it has every kind.
use Prim.Native.Nat.{ℕ, ◌<◌, ◌≤◌}
use native.Mathlib.Omega.{arith}
use mathlib.Core.Path.{◌≡◌, ap, fun_ext, ◌∙◌}
use mathlib.Core.Bool.{Bool, true, false, cond, not}
use mathlib.Core.List.{List}
use lib.ListN.{length, get_or, get_or-eq_default}
use lib.Dec.{eqb, ltb, ltb→lt, not_T}
use borrow.Author.Tests.{eq-eqb, ltb-false}
use Rattle.graph.specs.Graph.{Graph, graph, in_mask, table, full_mask, Kinds, KindOf}
use Rattle.graph.specs.Limits.{most_vertices, most_edges, most_kinds, too_many_vertices, uneven_columns, too_many_edges}
use Rattle.graph.specs.Refusal.{given, ◌or◌, outside, table_refusal, plain_refusal}
use Rattle.graph.specs.Numbers.{some_below}
use Rattle.graph.proofs.Tests.{T_true, no_t, t_dec, some_below_iff}
use Rattle.graph.proofs.Refusals.{or_pass, or_last, outside_no}

pub digit_low : (b : Bool) → cond b 1 0 ≤ 1
digit_low true = omega arith
digit_low false = omega arith

-- the full mask has every kind
full_has : (kind : ℕ) → kind < most_kinds → in_mask full_mask kind ≡ true
unfolding in_mask some_below
full_has kind h = elim (t_dec (in_mask full_mask kind)) as (λ _. in_mask full_mask kind ≡ true) [
  | yes t ↦ T_true _ t
  | no o ↦ absurd ((some_below_iff most_kinds (λ k. not (in_mask full_mask k))).1 (kind, h, not_T (in_mask full_mask kind) o))
]

pub full_has_of : {mask : ℕ} (kind : ℕ) → kind < most_kinds → mask ≡ full_mask → in_mask mask kind ≡ true
full_has_of kind h e = rw e (full_has kind h)

module _ {m : ℕ} {kinds : List ℕ} (k : Kinds m kinds) where
  -- an edge number beyond the table has kind 0
  kind_low : (e : ℕ) → get_or kinds e 0 < most_kinds
  kind_low e = elim (t_dec (ltb e m)) as (λ _. get_or kinds e 0 < most_kinds) [
    | yes t ↦ k.low e (ltb→lt e m t)
    | no o ↦ omega (arith, get_or-eq_default kinds 0 {n = e} (omega (arith, k.even, ltb-false e m (no_t _ o))))
  ]

  pub kind_of : {e : ℕ} → e < m → KindOf kinds e
  kind_of {e} h = record { place = omega (arith, k.even); low = k.low e h }

  -- with the full mask every edge counts: the table is the one without kinds
  pub table_full : (n : ℕ) (s t : List ℕ) → table n s t kinds full_mask ≡ graph n s t
  table_full n s t = ap {B = Graph} (λ (c : ℕ → Bool). record { n = n; m = length s; src = s; tgt = t; counted = c }) (fun_ext (λ e. full_has (get_or kinds e 0) (kind_low e)))

-- kinds that fit are not refused: the number is that of the table without kinds
pub refusal_full : (n : ℕ) (s t kinds : List ℕ) → Kinds (length s) kinds → table_refusal n s t kinds ≡ plain_refusal n s t
unfolding table_refusal plain_refusal given
refusal_full n s t kinds k =
    ap (λ (r : ℕ). given too_many_vertices (ltb most_vertices n) or given uneven_columns (not (eqb (length s) (length t))) or r)
    (or_pass _ _ (rw (eq-eqb _ _ k.even)) ∙ ap (λ (r : ℕ). given too_many_edges (ltb most_edges (length s)) or r) (or_last _ _ (rw fits)))
  where
    fits : outside most_kinds kinds ≡ false
    fits = outside_no most_kinds kinds (λ i l. k.low i (omega (arith, k.even)))
