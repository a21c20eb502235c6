-- The decomposer is not refused within the entry's limits, and its labels are those of the definition: with kinds of zeros and the full mask every edge counts.
use Prim.Native.Nat.{ℕ, ◌≤◌}
use native.Mathlib.Omega.{arith}
use mathlib.Core.Path.{◌≡◌, refl, sym, ap, ◌∙◌}
use mathlib.Core.List.{List}
use lib.ListN.{length, get_or, take, replicate, length-replicate, get_or-replicate}
use lib.Seq.{get_or-take, length-take-le}
use borrow.Author.Tests.{eq-eqb, le-ltb}
use Rattle.graph.specs.Graph.{graph, full_mask, Kinds}
use Rattle.graph.specs.Limits.{numbers_needed, words_needed}
use Rattle.graph.specs.Refusal.{given, ◌or◌, plain_refusal, lacking}
use Rattle.graph.specs.Search.{labels}
use Rattle.waiting.specs.Records.{none}
use Rattle.std.proofs.Common.{Result, Ok, Err}
use Rattle.graph.specs.declared.refusal.Refusal.{Refusal}
use Rattle.graph.proofs.Reasons.{number_some}
use Rattle.decompose.specs.Promise.{refusal_after}
use Rattle.decompose.specs.Plain.{Plainly}
use Rattle.decompose.proofs.Done.{decompose_full}
use Rattle.entry.specs.Steps.{LabelAsk}

module _ (n : ℕ) (sources targets label : List ℕ) (a : LabelAsk n sources targets label) where
  -- the front of the kinds of zeros
  module _ (kinds : List ℕ) (zeros : kinds ≡ replicate 4096 0) where
    kinds_room : length sources ≤ length kinds
    kinds_room = omega (arith, a.edges, ap length zeros ∙ length-replicate {A = ℕ} 4096 0)

    pub kinds_taken : length sources ≡ length (take (length sources) kinds)
    kinds_taken = sym (length-take-le (length sources) kinds kinds_room)

    kinded : Kinds (length sources) (take (length sources) kinds)
    kinded =
        record {
          even = sym kinds_taken;
          low = λ e l. omega (arith, get_or-take (length sources) kinds e 0 l ∙ ap (λ (xs : List ℕ). get_or xs e 0) zeros ∙ get_or-replicate 4096 e 0 0 (omega (arith, a.edges)));
        }

    module _ (numbers words : List ℕ) (l₁ : 14352 ≡ length numbers) (l₂ : 48 ≡ length words) where
      plain_refusal_none : refusal_after (plain_refusal n sources targets) n (length sources) 0 0 0 (length label) (length (replicate 512 none)) (length numbers) (length words) ≡ 0
      unfolding refusal_after given ◌or◌ lacking
      plain_refusal_none =
          let m : numbers_needed n (length sources) ≤ length numbers = omega (arith, a.vertices, a.edges) in
          let w : words_needed n ≤ length words = omega (arith, a.vertices) in
          rw (a.passed, eq-eqb _ _ a.long, le-ltb _ _ m, le-ltb _ _ w, le-ltb _ _ a.vertices)

      pub plain_labels : (label' numbers' words' : List ℕ) (r : Result ℕ Refusal)
          → Plainly n sources targets (take (length sources) kinds) full_mask label numbers words label' numbers' words' r → label' ≡ labels (graph n sources targets)
      plain_labels label' numbers' words' (Ok d) p = (decompose_full kinded refl p.promise).gives.label
      plain_labels label' numbers' words' (Err k) p = let q = decompose_full kinded refl p.promise in absurd (number_some k (q.refusal ∙ plain_refusal_none))
