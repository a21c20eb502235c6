-- The collection T of document 01 and the facts P1 to P11, as one table about the definitions; T with a mere mention.
use Rattle.std.specs.Prelude.{ℕ, ◌≤◌, ◌≡◌, Bool, List, [], ◌∷◌, ◌++◌, ◌↔◌, T, ltb, eqb, length, replicate}
use Rattle.graph.specs.Graph.{Graph, graph, table, full_mask, rev}
use Rattle.graph.specs.Numbers.{mark}
use Rattle.graph.specs.Search.{every, reached, labels, looked}
use Rattle.graph.specs.Sets.{bit, word}
use Rattle.graph.specs.Checker.{Columns, verdict, accepted, failed}
use Rattle.graph.specs.Certificate.{certificate}
use Rattle.graph.specs.Paths.{walk}
use Rattle.graph.specs.Limits.{numbers_needed, words_needed}
use Rattle.graph.specs.Pivot.{draw}
use Rattle.graph.specs.Summary.{summary}
use Rattle.graph.specs.Refusal.{table_refusal}
use Rattle.paths.specs.Promise.{Call, collection, distance, path_refusal}
use Rattle.text.specs.Market.{Table, Result, market, banner, done as read, refused as unread}
use Rattle.entry.specs.LabelText.{entry_limits}

-- 0→1, 1→2, 2→0, 2→3, 3→4, 4→3, 5→5
abbrev pub sources_t : List ℕ
sources_t = 0 ∷ 1 ∷ 2 ∷ 2 ∷ 3 ∷ 4 ∷ 5 ∷ []

abbrev pub targets_t : List ℕ
targets_t = 1 ∷ 2 ∷ 0 ∷ 3 ∷ 4 ∷ 3 ∷ 5 ∷ []

-- every reference is of kind 0; or 2→0 is a mere mention, of kind 1
abbrev pub kinds_t : List ℕ
kinds_t = 0 ∷ 0 ∷ 0 ∷ 0 ∷ 0 ∷ 0 ∷ 0 ∷ []

abbrev pub mentions_t : List ℕ
mentions_t = 0 ∷ 0 ∷ 1 ∷ 0 ∷ 0 ∷ 0 ∷ 0 ∷ []

abbrev pub collection_t : Graph
collection_t = table 6 sources_t targets_t kinds_t full_mask

-- all kinds but 1 count
abbrev pub hard_t : Graph
hard_t = table 6 sources_t targets_t mentions_t 253

abbrev pub labels_t : List ℕ
labels_t = 0 ∷ 0 ∷ 0 ∷ 3 ∷ 3 ∷ 5 ∷ []

-- the six columns that belong to T's labels
abbrev pub columns_t : Columns
columns_t = certificate collection_t labels_t

-- a search gives the word w and the edge count k
abbrev pub Finds : Graph → (ℕ → Bool) → (ℕ → Bool) → ℕ → ℕ → Type 0
Finds g permitted start w k =
    (word (reached g permitted start) ≡ w) × (looked g (mark (reached g permitted start)) ≡ k)

-- the call for the path in T from u to v, with room for k edges and as much working memory as T needs
abbrev pub asking : List ℕ → (mask u v k : ℕ) → Call
asking kinds mask u v k =
    record {
      n = 6;
      sources = sources_t;
      targets = targets_t;
      kinds = kinds;
      mask = mask;
      u = u;
      v = v;
      room = replicate k 0;
      numbers = replicate (numbers_needed 6 7) 0;
      words = replicate (words_needed 6) 0;
    }

-- the call c is not refused, and what it writes is the path es
abbrev pub Walks : Call → List ℕ → Type 0
Walks c es = (path_refusal c ≡ 0) × (walk (collection c) c.u (distance c) c.v ≡ es)

pub record Facts : Type 0 where
  -- labels of T, of n = 0, and of n = 1 with no edge
  pub p1 : labels collection_t ≡ 0 ∷ 0 ∷ 0 ∷ 3 ∷ 3 ∷ 5 ∷ []
  pub p2 : labels (graph 0 [] []) ≡ []
  pub p3 : labels (graph 1 [] []) ≡ 0 ∷ []
  -- ranks, in-distances and out-distances of T
  pub p4 : columns_t.rank ≡ 0 ∷ 0 ∷ 0 ∷ 1 ∷ 1 ∷ 0 ∷ []
  pub p5_in : columns_t.in_dist ≡ 0 ∷ 1 ∷ 2 ∷ 0 ∷ 1 ∷ 0 ∷ []
  pub p5_out : columns_t.out_dist ≡ 0 ∷ 2 ∷ 1 ∷ 0 ∷ 1 ∷ 0 ∷ []
  -- forward from {3}, backward from {3}, forward from {0} within {0, 1, 2}
  pub p6 : Finds collection_t every (eqb 3) 24 2
  pub p7 : Finds (rev collection_t) every (eqb 3) 31 6
  pub p8 : Finds collection_t (λ v. ltb v 3) (eqb 0) 7 4
  -- these words are sets: bit v of a word is 1 exactly if v is marked
  pub words_are_sets : (l : List Bool) → length l ≤ 64 → (v : ℕ) → (bit (word l ∷ []) v ≡ 1) ↔ T (mark l v)
  -- the path from 0 to 4, also with room for 3 edges, and the path from 4 to 0
  pub p9 : Walks (asking kinds_t full_mask 0 4 4) (0 ∷ 1 ∷ 3 ∷ 4 ∷ [])
  pub p9_room : path_refusal (asking kinds_t full_mask 0 4 3) ≡ 12
  pub p10 : path_refusal (asking kinds_t full_mask 4 0 6) ≡ 11
  -- the generator from 0
  pub p11 : draw 0 ≡ 1013904223
  pub p11_next : draw (draw 0) ≡ 1196435762

-- the columns with another label column, and with another rank column
abbrev pub relabelled : Columns → List ℕ → Columns
relabelled c l =
    record { label = l; rank = c.rank; in_edge = c.in_edge; in_dist = c.in_dist; out_edge = c.out_edge; out_dist = c.out_dist }

abbrev pub reranked : Columns → List ℕ → Columns
reranked c r =
    record { label = c.label; rank = r; in_edge = c.in_edge; in_dist = c.in_dist; out_edge = c.out_edge; out_dist = c.out_dist }

-- what the program reads in a text of a first line and a size line
abbrev pub reading_of : List ℕ → Result Table
reading_of size_line = market entry_limits (banner ++ (10 ∷ size_line))

-- what document 01 only asks to be run, and what the definitions give for it
pub record Runs : Type 0 where
  pub summary_of_t : summary 6 labels_t ≡ record { own = 3; rings = 2; largest = 3 }
  pub columns_pass : verdict collection_t columns_t ≡ accepted
  pub five_labelled_three : verdict collection_t (relabelled columns_t (0 ∷ 0 ∷ 0 ∷ 3 ∷ 3 ∷ 3 ∷ [])) ≡ failed 2 5
  pub ranks_zero : verdict collection_t (reranked columns_t (0 ∷ 0 ∷ 0 ∷ 0 ∷ 0 ∷ 0 ∷ [])) ≡ failed 5 3
  pub most_pass : table_refusal 65536 [] [] [] ≡ 0
  pub one_more : table_refusal 65537 [] [] [] ≡ 1
  -- the size lines `512 512 0` and `513 513 0`
  pub program_passes : reading_of (53 ∷ 49 ∷ 50 ∷ 32 ∷ 53 ∷ 49 ∷ 50 ∷ 32 ∷ 48 ∷ []) ≡ read (record { n = 512; edges = [] })
  pub program_refuses : reading_of (53 ∷ 49 ∷ 51 ∷ 32 ∷ 53 ∷ 49 ∷ 51 ∷ 32 ∷ 48 ∷ []) ≡ unread 1

-- T with a mention: with it the ring 0, 1, 2 is closed, without it it is none
pub record Mentions : Type 0 where
  pub bound : labels (table 6 sources_t targets_t mentions_t full_mask) ≡ labels_t
  pub broken : labels hard_t ≡ 0 ∷ 1 ∷ 2 ∷ 3 ∷ 3 ∷ 5 ∷ []
  pub ranks : (certificate hard_t (labels hard_t)).rank ≡ 0 ∷ 1 ∷ 2 ∷ 3 ∷ 3 ∷ 0 ∷ []
  pub forward : Finds hard_t every (eqb 0) 31 5
  pub backward : Finds (rev hard_t) every (eqb 0) 1 0
  pub no_way_back : path_refusal (asking mentions_t 253 2 0 6) ≡ 11
  -- the out-edge of 2 is the mention
  pub columns_fail : verdict hard_t columns_t ≡ failed 4 2
  pub six_kinds : table_refusal 6 sources_t targets_t (0 ∷ 0 ∷ 0 ∷ 0 ∷ 0 ∷ 0 ∷ []) ≡ 21
  pub kind_eight : table_refusal 6 sources_t targets_t (0 ∷ 0 ∷ 8 ∷ 0 ∷ 0 ∷ 0 ∷ 0 ∷ []) ≡ 22
