-- What the contracts of the functions below the call cite: the gains that a table needs, where there are so many, and the pairs that were seen.
-- Definitions only.
use Rattle.std.specs.Prelude.{ℕ, ◌/◌, ◌%◌, ◌<◌, ◌≡◌, cond, List, ltb, Option, Some, None}
use Rattle.sets.specs.Sets.{member}
use Rattle.format_table.specs.Tables.{times, some_pair, missing, twice, uncovered, all_pairs}
use Rattle.format_table.specs.declared.pairs.Seen.{Seen}
use Rattle.format_table.specs.declared.pairs.Faults.{Faults}

-- n gains are needed, and there are `room`
abbrev pub needs_of : ℕ → ℕ → Option ℕ
needs_of n room = cond (ltb room n) None (Some n)

-- the pairs that one, and that two of the first n entries are for
pub record SeenIn (pairs : List ℕ) (n : ℕ) (seen : Seen) : Type 0 where
  pub once : (k : ℕ) → k < all_pairs → member seen.once k ≡ ltb 0 (times pairs (k / 7) (k % 7) n)
  pub twice : (k : ℕ) → k < all_pairs → member seen.twice k ≡ ltb 1 (times pairs (k / 7) (k % 7) n)

-- the faults of the first n pairs
pub record FaultsIn (pairs : List ℕ) (n : ℕ) (faults : Faults) : Type 0 where
  pub missing : faults.missing ≡ some_pair (missing pairs) n
  pub twice : faults.twice ≡ some_pair (twice pairs) n
  pub uncovered : faults.uncovered ≡ some_pair (uncovered pairs) n
