-- The reader as a whole.
use Rattle.std.proofs.Common.{ℕ, min, arith, ◌≡◌, sym, ◌∙◌, ap, List, length, Ok, Err, Result as Answer}
use Rattle.graph.specs.declared.refusal.Refusal.{Refusal}
use Rattle.graph.specs.Reasons.{number_of}
use Rattle.lines.specs.Pieces.{lines}
use Rattle.text.specs.declared.header.Head.{Head}
use Rattle.text.specs.declared.header.Limits.{Limits}
use Rattle.text.specs.declared.Size.{Size}
use Rattle.text.specs.Market.{done, refused, as_reading, entries, as_table}
use Rattle.text.specs.Steps.{Begun, HeadSaid, Judged, JudgeSaid, only_judged, edges_of, FillAsk, Filled}
use Rattle.text.specs.Promise.{Call, reading, answer_to, after, Promise}
use Rattle.text.proofs.Tables.{entries_count}
use Rattle.text.proofs.Edges.{judged_some, judged_refused}

module _ (l : Limits) (text : List ℕ) (h : Answer Head Refusal) (said : HeadSaid l text h) where
  pub judge_refused : (r : Refusal) → h ≡ Err r → JudgeSaid l text (Err r)
  unfolding HeadSaid JudgeSaid
  judge_refused r q = rw q at said

  module _ (head : Head) (q : h ≡ Ok head) (x : Answer (Unit {0}) Refusal) (told : as_reading x ≡ only_judged (entries head.size.n head.size.edges (lines head.rest.now))) where
    begun : Begun l text head.size head.rest.now
    unfolding HeadSaid
    begun = rw q at said

    pub judge_wrong : (r : Refusal) → x ≡ Err r → JudgeSaid l text (Err r)
    unfolding JudgeSaid as_table
    judge_wrong r e = begun.comes_to ∙ rw (judged_refused (entries head.size.n head.size.edges (lines head.rest.now)) (number_of r) (ap as_reading (sym e) ∙ told))

    pub judge_right : x ≡ Ok tt → JudgeSaid l text (Ok head)
    unfolding JudgeSaid
    judge_right e =
        let d = judged_some (entries head.size.n head.size.edges (lines head.rest.now)) (ap as_reading (sym e) ∙ told) in
        record { edges = d.0; begun = begun; reads = d.1 }

module _ (text : List ℕ) (most_vertices most_edges : ℕ) (s t : List ℕ) (room : ℕ) (least : room ≡ min (length s) (length t)) (h : Answer Head Refusal) (said : JudgeSaid (record { most_vertices = most_vertices; most_edges = most_edges; room = room }) text h) where
  abbrev call : Call
  call = record { text = text; most_vertices = most_vertices; most_edges = most_edges; sources = s; targets = t }

  pub within_refused : (k : Refusal) → h ≡ Err k → Promise call (Err k) s t
  unfolding JudgeSaid answer_to after
  within_refused k q =
      let r : reading call ≡ refused (number_of k) = rw (← least) (rw q at said) in
      record { answers = rw r; sources_afterwards = rw r; targets_afterwards = rw r }

  module _ (head : Head) (q : h ≡ Ok head) where
    judged : Judged (record { most_vertices = most_vertices; most_edges = most_edges; room = room }) text head.size head.rest.now
    unfolding JudgeSaid
    judged = rw q at said

    pub within_ask : FillAsk head.rest.now head.size s t
    within_ask = record { edges = judged.edges; reads = judged.reads; room_s = omega (arith, least, judged.begun.fits); room_t = omega (arith, least, judged.begun.fits) }

    pub within_done : (s' t' : List ℕ) → Filled head.rest.now head.size s t s' t' → Promise call (Ok head.size) s' t'
    unfolding answer_to after as_table edges_of
    within_done s' t' f =
        let e = judged.reads in
        let m = entries_count head.size.n head.size.edges (lines head.rest.now) judged.edges e in
        let r : reading call ≡ done (record { n = head.size.n; edges = judged.edges }) = rw (← least) (judged.begun.comes_to ∙ ap (as_table head.size.n) e) in
        let size : ℕ → Size = λ k. record { n = head.size.n; edges = k } in
        record { answers = rw r (ap (λ (k : ℕ). done (size k)) (sym m)); sources_afterwards = rw r (rw e at f.sources); targets_afterwards = rw r (rw e at f.targets) }
