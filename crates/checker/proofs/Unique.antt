-- The checker's promise fixes its answer, an accepted label column is the right one, and with the full mask kinds change nothing.
use Prim.Native.Nat.{ℕ}
use native.Mathlib.Omega.{arith}
use mathlib.Core.Path.{◌≡◌, refl, sym, ap, subst₂, ◌∙◌}
use lib.ListN.{length}
use native.Mathlib.Decide.{ℕ_discrete}
use borrow.Author.Tests.{eq-eqb, ne_eqb}
use Rattle.graph.specs.Graph.{Graph, Kinds, graph, table, full_mask}
use Rattle.graph.specs.Search.{labels}
use Rattle.graph.specs.Refusal.{table_refusal, plain_refusal}
use Rattle.graph.specs.Checker.{accepted, verdict}
use Rattle.graph.specs.Certificate.{certificate}
use Rattle.graph.proofs.Masks.{table_full, refusal_full}
use Rattle.graph.proofs.Verdict.{checker_sound, checker_complete}
use Rattle.std.specs.Prelude.{Result, Ok, Err, cond, eqb}
use Rattle.graph.specs.Reasons.{number_of}
use Rattle.graph.specs.declared.refusal.Refusal.{Refusal}
use Rattle.graph.specs.declared.refusal.Refusal.TheVariants.{TooManyVertices, UnevenColumns, TooManyEdges, EndOutside, WrongLength, MemoryShort, ListShort, UnknownChoice, VertexOutside, WrongLabels, NoPath, RoomShort, FirstLineFaulty, SizeLineFaulty, EntryFaulty, InputTooLong, UnevenKinds, KindOutside}
use Rattle.checker.specs.Promise.{Call, collection, bare, checker_refusal, refusal_on, number, done, refused, judged, outcome, promised_on, PromiseOn, Promise}
use Rattle.checker.specs.declared.Verdict.{Verdict}
use Rattle.checker.specs.declared.Verdict.TheVariants.{Accepted, Failed}
use Rattle.checker.proofs.Laws.{call_ready}

-- the refusal that has this number
named : ℕ → Refusal
named k =
    cond (eqb k 1) TooManyVertices (
    cond (eqb k 2) UnevenColumns (
    cond (eqb k 3) TooManyEdges (
    cond (eqb k 4) EndOutside (
    cond (eqb k 5) WrongLength (
    cond (eqb k 6) MemoryShort (
    cond (eqb k 7) ListShort (
    cond (eqb k 8) UnknownChoice (
    cond (eqb k 9) VertexOutside (
    cond (eqb k 10) WrongLabels (
    cond (eqb k 11) NoPath (
    cond (eqb k 12) RoomShort (
    cond (eqb k 13) FirstLineFaulty (
    cond (eqb k 14) SizeLineFaulty (
    cond (eqb k 15) EntryFaulty (
    cond (eqb k 16) InputTooLong (
    cond (eqb k 21) UnevenKinds (
    KindOutside)))))))))))))))))

named_back : (r : Refusal) → named (number_of r) ≡ r
unfolding named
named_back TooManyVertices = refl
named_back UnevenColumns = refl
named_back TooManyEdges = refl
named_back EndOutside = refl
named_back WrongLength = refl
named_back MemoryShort = refl
named_back ListShort = refl
named_back UnknownChoice = refl
named_back VertexOutside = refl
named_back WrongLabels = refl
named_back NoPath = refl
named_back RoomShort = refl
named_back FirstLineFaulty = refl
named_back SizeLineFaulty = refl
named_back EntryFaulty = refl
named_back InputTooLong = refl
named_back UnevenKinds = refl
named_back KindOutside = refl

-- two refusals with one number are one
pub number_one : {r s : Refusal} → number_of r ≡ number_of s → r ≡ s
number_one {r} {s} e = sym (named_back r) ∙ ap named e ∙ named_back s

-- an answer can be read from what it stands for
same_judged : (a b : Verdict) → judged a ≡ judged b → a ≡ b
same_judged Accepted Accepted q = cc
same_judged Accepted (Failed j y) q = cc
same_judged (Failed k x) Accepted q = cc
same_judged (Failed k x) (Failed j y) q = cc

same_outcome : (a b : Result Verdict Refusal) → outcome a ≡ outcome b → a ≡ b
unfolding outcome
same_outcome (Ok v) (Ok w) q = ap Ok (same_judged v w (cc))
same_outcome (Ok v) (Err s) q = cc
same_outcome (Err r) (Ok w) q = cc
same_outcome (Err r) (Err s) q = ap Err (number_one (cc))

-- TWO ANSWERS THAT MEET THE PROMISE ARE EQUAL
pub check_one_on : (k : ℕ) (g : Graph) (c : Call) (a b : Result Verdict Refusal) → PromiseOn k g c a → PromiseOn k g c b → a ≡ b
check_one_on k g c a b p q = same_outcome a b (p ∙ sym q)

pub check_one : (c : Call) (a b : Result Verdict Refusal) → Promise c a → Promise c b → a ≡ b
check_one c = check_one_on (table_refusal c.n c.sources c.targets c.kinds) (collection c) c

-- the number returned is the refusal's, and 0 exactly if the columns were judged
pub check_number : (c : Call) (a : Result Verdict Refusal) → Promise c a → number (outcome a) ≡ checker_refusal c
unfolding number promised_on
check_number c a p = elim (ℕ_discrete (checker_refusal c) 0) as (λ _. number (outcome a) ≡ checker_refusal c) [
  | yes e ↦ rw (p, e)
  | no o ↦ rw (p, ne_eqb (checker_refusal c) 0 o)
]

-- ACCEPTED LABELS ARE THE LABELS
pub accepted_right : (c : Call) → Promise c (Ok Accepted) → c.given_columns.label ≡ labels (collection c)
unfolding outcome promised_on
accepted_right c p = elim (ℕ_discrete (checker_refusal c) 0) as (λ _. c.given_columns.label ≡ labels (collection c)) [
  | yes e ↦
      let r = call_ready c e in
      let q : done accepted ≡ done (verdict (collection c) c.given_columns) = rw (eq-eqb (checker_refusal c) 0 e) at p in
      checker_sound r.valid c.given_columns r.sized (cc)
  | no o ↦
      let q : done accepted ≡ refused (checker_refusal c) = rw (ne_eqb (checker_refusal c) 0 o) at p in
      let z : ◌≡◌ {A = ℕ} 0 1 = cc in
      absurd (omega arith)
]

-- THE CERTIFICATE OF THE LABELS IS ACCEPTED
pub certificate_accepted : (c : Call) (a : Result Verdict Refusal) → checker_refusal c ≡ 0
    → c.given_columns ≡ certificate (collection c) (labels (collection c))
    → Promise c a → a ≡ Ok Accepted
unfolding outcome promised_on
certificate_accepted c a e q p =
    check_one c a (Ok Accepted) p (rw (e, q, checker_complete (call_ready c e).valid))

-- with kinds from 0 to 7 and the full mask: what is promised of the table without kinds
pub check_full : (c : Call) (a : Result Verdict Refusal) → Kinds (length c.sources) c.kinds → c.mask ≡ full_mask → Promise c a
    → PromiseOn (plain_refusal c.n c.sources c.targets) (graph c.n c.sources c.targets) (bare c) a
unfolding promised_on refusal_on
check_full c a k e = subst₂ (λ (r : ℕ) (g : Graph). PromiseOn r g (bare c) a)
    (refusal_full c.n c.sources c.targets c.kinds k)
    (ap (λ (mask : ℕ). table c.n c.sources c.targets c.kinds mask) e ∙ table_full k c.n c.sources c.targets)
