-- What an accepted table is, condition by condition, in the words of request C-14. Definitions only.
use Rattle.std.specs.Prelude.{ℕ, ◌<◌, ◌≤◌, ◌≡◌, true, false, List, length, get_or, Float}
use Rattle.std.specs.Float.{nan}
use Rattle.format_fold.specs.Folds.{gain_in_range}
use Rattle.format_table.specs.Covered.{applies}
use Rattle.format_table.specs.Tables.{entries, source_at, destination_at, times, needed}

pub record TableSound (pairs : List ℕ) (gains : List Float) : Type 0 where
  -- each entry is of two formats
  pub formats : (k : ℕ) → k < entries pairs → (source_at pairs k < 7) × (destination_at pairs k < 7)
  -- each pair for which `applies` says yes has one entry
  pub covered : (src dst : ℕ) → src < 7 → dst < 7 → applies src dst ≡ true → times pairs src dst (entries pairs) ≡ 1
  -- and no other pair has any
  pub others : (src dst : ℕ) → src < 7 → dst < 7 → applies src dst ≡ false → times pairs src dst (entries pairs) ≡ 0
  -- no gain is missing
  pub enough : needed pairs (entries pairs) ≤ length gains
  -- or outside +0 to 16
  pub in_range : (i : ℕ) → i < needed pairs (entries pairs) → gain_in_range (get_or gains i nan) ≡ true
