-- From the reader's answer and the writer's to the entry's.
use Prim.Native.Nat.{ℕ, ◌≤◌}
use native.Mathlib.Omega.{arith}
use mathlib.Core.Path.{◌≡◌, refl, sym, ◌∙◌, ap}
use mathlib.Core.Bool.{Bool, true, false}
use mathlib.Core.List.{List, map}
use lib.Dec.{ltb}
use lib.ListN.{length, take, drop, length-take, length-map}
use lib.Seq.{take_at}
use borrow.Author.Tests.{le-ltb}
use Rattle.graph.specs.Graph.{graph}
use Rattle.graph.specs.Limits.{most_vertices}
use Rattle.graph.specs.Refusal.{given, ◌or◌, plain_refusal}
use Rattle.graph.specs.Search.{labels}
use Rattle.graph.proofs.Certificate.{labels_size}
use Rattle.std.proofs.Common.{Ok, Err, Result as Answer}
use Rattle.graph.specs.declared.refusal.Refusal.{Refusal}
use Rattle.std.specs.Result.{IfOk}
use Rattle.graph.specs.Reasons.{number_of, said}
use Rattle.graph.proofs.Reasons.{number_some}
use Rattle.text.specs.declared.entries.Edge.{Edge}
use Rattle.text.specs.declared.Size.{Size}
use Rattle.text.specs.Market.{refused, done, as_reading, Table, market}
use Rattle.text.specs.Promise.{Call, reading, after, Promise}
use Rattle.text.proofs.Answers.{refused_is, IsDone, done_is}
use Rattle.text.proofs.Tables.{Sound, market_sound, sound_passed}
use Rattle.labels.specs.File.{label_file}
use Rattle.labels.specs.Promise.{write_refusal, Promise as Wrote, after as wrote_after}
use Rattle.entry.specs.LabelText.{entry_limits, file_of, in_room, outcome, answer_to, after as out_after, Answered}
use Rattle.entry.specs.Steps.{LabelAsk}

moved : {A : Type 0} (f : ℕ → List ℕ → List ℕ → A) {n n' : ℕ} {a a' b b' : List ℕ} → n ≡ n' → a ≡ a' → b ≡ b' → f n a b ≡ f n' a' b'
moved f p q r = rw (p, q, r)

-- the writer's answer as a reading
wrote_refused : (a : Answer ℕ Refusal) (k : ℕ) → (k ≡ 0 → ⊥) → said a ≡ k → as_reading a ≡ refused k
wrote_refused (Ok b) k n e = absurd (n (sym e))
wrote_refused (Err r) k n e = ap refused e

wrote_done : (a : Answer ℕ Refusal) (n : ℕ) → said a ≡ 0 → IfOk a (λ b. b ≡ n) → as_reading a ≡ done n
wrote_done (Ok b) n e h = ap done h
wrote_done (Err r) n e h = absurd (number_some r e)

-- a table that was read within v vertices, and the fronts of the two columns
module _ (v : ℕ) (text room₁ room₂ : List ℕ) where
  abbrev call_of : Call
  call_of = record { text = text; most_vertices = v; most_edges = 4096; sources = room₁; targets = room₂ }

  module _ (r : Answer Size Refusal) (s t : List ℕ) (p : Promise call_of r s t) (z : Size) (e : r ≡ Ok z) where
    told : IsDone (reading call_of) z
    told = done_is (reading call_of) z (ap as_reading (sym e) ∙ p.answers)

    front : (f : Edge → ℕ) (xs ys : List ℕ) → ys ≡ after f (reading call_of) xs → take z.edges ys ≡ map f told.table.edges
    unfolding after
    front f xs ys q = rw (q, told.is) (take_at (map f told.table.edges) (drop (length told.table.edges) xs) z.edges (length-map told.table.edges f ∙ sym told.count))

    taken : (f : Edge → ℕ) (xs ys : List ℕ) → ys ≡ after f (reading call_of) xs → z.edges ≡ length (take z.edges ys)
    taken f xs ys q = omega (arith, ap length (front f xs ys q), length-map told.table.edges f, told.count)

    pub sources_taken : z.edges ≡ length (take z.edges s)
    sources_taken = taken (λ a. a.source) room₁ s p.sources_afterwards

    pub targets_taken : z.edges ≡ length (take z.edges t)
    targets_taken = taken (λ a. a.target) room₂ t p.targets_afterwards

    pub sources_room : z.edges ≤ length s
    sources_room = omega (arith, sources_taken, length-take z.edges s)

    pub targets_room : z.edges ≤ length t
    targets_room = omega (arith, targets_taken, length-take z.edges t)

module _ (text room₁ room₂ : List ℕ) where
  abbrev call : Call
  call = call_of 512 text room₁ room₂

  module _ (r : Answer Size Refusal) (s t : List ℕ) (p : Promise call r s t) (long₁ : 4096 ≡ length room₁) (long₂ : 4096 ≡ length room₂) where
    reading_is : reading call ≡ market entry_limits text
    reading_is = rw (← long₁, ← long₂)

    pub refused_text : (out : List ℕ) (k : Refusal) → r ≡ Err k → Answered text out (Err k) out
    unfolding outcome file_of in_room answer_to out_after
    refused_text out k e =
        let q : market entry_limits text ≡ refused (number_of k) = sym reading_is ∙ refused_is (reading call) (number_of k) (ap as_reading (sym e) ∙ p.answers) in
        record { answers = rw q; out_after = rw q }

    module _ (z : Size) (e : r ≡ Ok z) where
      abbrev its : IsDone (reading call) z
      its = told 512 text room₁ room₂ r s t p z e

      abbrev table : Table
      table = its.table

      sound : Sound entry_limits table
      sound = market_sound entry_limits text table (sym reading_is ∙ its.is)

      same : {A : Type 0} (f : ℕ → List ℕ → List ℕ → A) → f z.n (take z.edges s) (take z.edges t) ≡ f table.n (map (λ a. a.source) table.edges) (map (λ a. a.target) table.edges)
      same f =
          moved
          f
          its.vertices
          (front 512 text room₁ room₂ r s t p z e (λ a. a.source) room₁ s p.sources_afterwards)
          (front 512 text room₁ room₂ r s t p z e (λ a. a.target) room₂ t p.targets_afterwards)

      pub read_ask : LabelAsk z.n (take z.edges s) (take z.edges t) (labels (graph z.n (take z.edges s) (take z.edges t)))
      read_ask =
          record {
            passed = same plain_refusal ∙ sound_passed entry_limits table (omega arith) (omega arith) sound;
            vertices = omega (arith, its.vertices, sound.vertices);
            edges = omega (arith, sources_taken 512 text room₁ room₂ r s t p z e, its.count, sound.few);
            long = labels_size (graph z.n (take z.edges s) (take z.edges t));
          }

      -- its labels, written
      pub written_text : (out : List ℕ) (a : Answer ℕ Refusal) (out' : List ℕ) → Wrote (labels (graph z.n (take z.edges s) (take z.edges t))) out a out' → Answered text out a out'
      unfolding outcome file_of in_room answer_to out_after write_refusal wrote_after given ◌or◌
      written_text out a out' w = go (ltb (length out) (length (label_file label))) refl
        where
          label : List ℕ
          label = labels (graph z.n (take z.edges s) (take z.edges t))

          few : length label ≤ most_vertices
          few = omega (arith, read_ask.long, read_ask.vertices)

          q : file_of (market entry_limits text) ≡ done (label_file label)
          q = rw (← reading_is, its.is, same graph)

          go : (t : Bool) → ltb (length out) (length (label_file label)) ≡ t → Answered text out a out'
          go true h = record { answers = wrote_refused a 12 (λ e. omega arith) (w.refusal ∙ rw (le-ltb _ _ few, h)) ∙ rw (q, h); out_after = w.out_after ∙ rw (le-ltb _ _ few, q, h) }
          go false h = record { answers = wrote_done a (length (label_file label)) (w.refusal ∙ rw (le-ltb _ _ few, h)) w.bytes ∙ rw (q, h); out_after = w.out_after ∙ rw (le-ltb _ _ few, q, h) }
