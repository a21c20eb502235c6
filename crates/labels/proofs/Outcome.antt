-- The writer as a whole.
use Prim.Native.Nat.{ℕ, ◌≤◌, ◌<◌}
use mathlib.Core.Path.{◌≡◌}
use mathlib.Core.List.{List}
use lib.ListN.{length}
use borrow.Author.Tests.{lt-ltb, le-ltb}
use Rattle.graph.specs.Limits.{most_vertices}
use Rattle.graph.specs.Refusal.{given, ◌or◌}
use Rattle.std.proofs.Common.{Ok, Err}
use Rattle.graph.specs.declared.refusal.Refusal.TheVariants.{TooManyVertices, RoomShort}
use Rattle.labels.specs.File.{label_file}
use Rattle.labels.specs.Steps.{Written}
use Rattle.labels.specs.Promise.{write_refusal, after, Promise}
use Rattle.labels.proofs.Bytes.{written_front}

module _ (label out : List ℕ) where
  pub too_many : most_vertices < length label → Promise label out (Err TooManyVertices) out
  unfolding write_refusal after given ◌or◌
  too_many h = record { refusal = rw (lt-ltb _ _ h); bytes = tt; out_after = rw (lt-ltb _ _ h) }

  module _ (few : length label ≤ most_vertices) (bytes : ℕ) (is : bytes ≡ length (label_file label)) where
    pub too_short : length out < bytes → Promise label out (Err RoomShort) out
    unfolding write_refusal after given ◌or◌
    too_short h =
        let l : length out < length (label_file label) = rw is at h in
        record { refusal = rw (le-ltb _ _ few, lt-ltb _ _ l); bytes = tt; out_after = rw (le-ltb _ _ few, lt-ltb _ _ l) }

    pub all_written : bytes ≤ length out → (r : ℕ) (out' : List ℕ) → Written (label_file label) out 0 r out' → Promise label out (Ok bytes) out'
    unfolding write_refusal after given ◌or◌
    all_written h r out' w =
        let l : length (label_file label) ≤ length out = rw is at h in
        record { refusal = rw (le-ltb _ _ few, le-ltb _ _ l); bytes = is; out_after = rw (le-ltb _ _ few, le-ltb _ _ l) (written_front w l) }
