-- Where the certificate writer's regions stand, behind the indexes: b is where the indexes end.
use Rattle.std.specs.Prelude.{ℕ, ◌+◌, ◌*◌}

abbrev pub in_distances : ℕ → ℕ → ℕ
in_distances n b = b

abbrev pub out_distances : ℕ → ℕ → ℕ
out_distances n b = b + n

abbrev pub queue_at : ℕ → ℕ → ℕ
queue_at n b = b + 2 * n

abbrev pub in_edges : ℕ → ℕ → ℕ
in_edges n b = b + 3 * n

abbrev pub out_edges : ℕ → ℕ → ℕ
out_edges n b = b + 4 * n

abbrev pub ranks_at : ℕ → ℕ → ℕ
ranks_at n b = b + 5 * n

abbrev pub counts_at : ℕ → ℕ → ℕ
counts_at n b = b + 6 * n
