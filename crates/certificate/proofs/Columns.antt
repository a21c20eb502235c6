-- What the writer writes, by the relations: labels, ranks, shortest distances, smallest edges that fit.
use Prim.Native.Nat.{ℕ, ◌<◌}
use native.Mathlib.Omega.{arith}
use mathlib.Core.Path.{◌≡◌, refl, sym, subst₂, ◌∙◌}
use mathlib.Core.Logic.{⊎_elim}
use mathlib.Core.Bool.{cond}
use mathlib.Core.List.{List}
use lib.ListN.{length}
use lib.Dec.{T, eqb}
use borrow.Author.Tests.{eq-eqb, ne_eqb}
use Rattle.graph.specs.Graph.{Graph, graph, Kinds, full_mask, Valid, rev, edges}
use Rattle.graph.specs.Refusal.{plain_refusal}
use Rattle.graph.specs.Numbers.{least}
use Rattle.graph.specs.Checker.{at, no_edge, entry}
use Rattle.graph.specs.Certificate.{Right, IsDist, dist_of, rank_of, distances, entries, ranks, certificate}
use Rattle.graph.proofs.Tests.{get_or_each, least_first}
use Rattle.graph.proofs.Masks.{table_full, refusal_full}
use Rattle.graph.proofs.Chains.{valid_rev, chain_rev, label_rev}
use Rattle.graph.proofs.Distance.{dist_is, dist_low}
use Rattle.graph.proofs.Rank.{rank_is}
use Rattle.graph.proofs.Checker.{Entry, check3_says}
use Rattle.graph.proofs.Certificate.{right_3}
use Rattle.classes.proofs.Inside.{right_tells, right_low}
use Rattle.checker.specs.Promise as checker
use Rattle.certificate.specs.Columns.{InEdge, WrittenFor}
use Rattle.certificate.specs.Promise.{Lent, Call, collection, bare, columns, early_on, refusal_on, PromiseOn, Promise}
use Rattle.certificate.proofs.Fitting.{fits_make, entry_fits}
use Rattle.certificate.proofs.Writing.{ready_of, right_of}

-- the columns of one direction
module _ {g : Graph} (ok : Valid g) (lab : List ℕ) (right : Right g lab) where
  at_distance : (v : ℕ) → v < g.n → at (distances g lab) v ≡ dist_of g (at lab v) v
  unfolding distances
  at_distance v l = get_or_each g.n (λ v. dist_of g (at lab v) v) 0 v l

  distance : (v : ℕ) → v < g.n → IsDist g (at lab v) v (at (distances g lab) v)
  distance v l = rw (at_distance v l) (dist_is ok (at lab v) v (right_low ok lab right v l) l (right v l).member.back)

  distance_low : (v : ℕ) → v < g.n → at (distances g lab) v < g.n
  distance_low v l = rw (at_distance v l) (dist_low ok (at lab v) v (right_low ok lab right v l) l (right v l).member.back)

  at_edge : (v : ℕ) → v < g.n → at (entries g lab (distances g lab)) v ≡ cond (eqb (at lab v) v) no_edge (least (edges g) (λ e. entry g lab (distances g lab) e v))
  unfolding entries
  at_edge v l = get_or_each g.n (λ v. cond (eqb (at lab v) v) no_edge (least (edges g) (λ e. entry g lab (distances g lab) e v))) 0 v l

  entered : (v : ℕ) → v < g.n → (at lab v ≡ v → ⊥) → Entry g lab (distances g lab) (at (entries g lab (distances g lab)) v) v
  entered v l o = ⊎_elim (λ (q, _). absurd (o q)) (λ x. x) (check3_says g lab (entries g lab (distances g lab)) (distances g lab) v (right_3 ok lab right v l))

  edge : (v : ℕ) → v < g.n → InEdge g lab (distances g lab) v (at (entries g lab (distances g lab)) v)
  edge v l =
      record {
        own = λ q. at_edge v l ∙ rw (eq-eqb (at lab v) v q);
        low = λ o. (entered v l o).edge.low;
        fits = λ o. let x = entered v l o in record { counts = x.edge.counts; enters = x.edge.enters; same = x.same; nearer = x.more };
        smallest = λ o e m f.
            let here : at (entries g lab (distances g lab)) v ≡ least (edges g) (λ e. entry g lab (distances g lab) e v) = at_edge v l ∙ rw (ne_eqb (at lab v) v o) in
            let t : T (entry g lab (distances g lab) e v) =
            rw (entry_fits ok lab (distances g lab) (at (distances g lab)) (λ v l. refl) distance_low e v m l ∙ fits_make g lab (at (distances g lab)) e v f) tt in
            omega (arith, least_first (edges g) (λ e. entry g lab (distances g lab) e v) e m t);
      }

-- THE COLUMNS WRITTEN ARE THOSE OF THE RELATIONS
pub written_columns : (c : Call) (after : Lent) → Promise c 0 after → (v : ℕ) → v < c.n → WrittenFor (collection c) (columns c.label after) v
unfolding certificate ranks
written_columns c after p v l = rw (p.written refl).0 holds
  where
    ok : Valid (collection c)
    ok = (ready_of c (sym p.number)).0

    right : Right (collection c) c.label
    right = right_of c (sym p.number)

    turned : Right (rev (collection c)) c.label
    turned v l = label_rev (right v l)

    holds : WrittenFor (collection c) (certificate (collection c) c.label) v
    holds =
        let back = distance (valid_rev ok) c.label turned v l in
        record {
          label = right v l;
          rank = rw (get_or_each c.n (rank_of (collection c) (at c.label)) 0 v l) (rank_is ok (at c.label) (right_tells ok c.label right) v l);
          in_dist = distance ok c.label right v l;
          in_edge = edge ok c.label right v l;
          out_dist = record { chain = chain_rev back.chain; shortest = λ h x. back.shortest h (chain_rev x) };
          out_edge = edge (valid_rev ok) c.label turned v l;
        }

-- what is promised of a graph does not look at the call's kinds and mask
bared : (k : ℕ) (g : Graph) (c : Call) (r : ℕ) (after : Lent) → PromiseOn k g c r after → PromiseOn k g (bare c) r after
unfolding refusal_on early_on checker.refusal_on
bared k g c r after p = record { number = p.number; written = p.written; wrong = p.wrong; refused = p.refused }

-- with kinds from 0 to 7 and the full mask: what is promised of the table without kinds
pub write_full : (c : Call) (r : ℕ) (after : Lent) → Kinds (length c.sources) c.kinds → c.mask ≡ full_mask → Promise c r after
    → PromiseOn (plain_refusal c.n c.sources c.targets) (graph c.n c.sources c.targets) (bare c) r after
write_full c r after kinded full p =
    bared (plain_refusal c.n c.sources c.targets) (graph c.n c.sources c.targets) c r after
    (subst₂ (λ (k : ℕ) (g : Graph). PromiseOn k g c r after) (refusal_full c.n c.sources c.targets c.kinds kinded) (rw full (table_full kinded c.n c.sources c.targets)) p)
