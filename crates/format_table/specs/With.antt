-- A fold with a house table: its own tests first, then the table's; for a pair that the table covers its entry, for the rest the built-in fold.
-- Definitions only.
use Rattle.std.specs.Prelude.{ℕ, ◌*◌, Bool, cond, List, ◌++◌, length, drop, Float, Ok}
use Rattle.refusal.specs.Tests.{Test, first, area_after, Answer}
use Rattle.format.specs.Formats.{channels}
use Rattle.format_fold.specs.Folds.{gains_in_range}
use Rattle.format_fold.specs.Width.{entries_of, width_tests}
use Rattle.format_fold.specs.declared.FoldGains.{FoldGains}
use Rattle.format_table.specs.Covered.{applies}
use Rattle.format_table.specs.Tables.{some_unknown, some_outside, some_pair, needed, times, table_tests, table_entry}

-- 16, 17, 2 of the fold, with an area of n floats, and then 16, 2, 17, 19, 20, 21 of the table
abbrev pub with_tests : ℕ → ℕ → FoldGains → ℕ → List ℕ → List Float → List Test
with_tests src dst g n pairs gains = width_tests src dst g n ++ table_tests pairs gains

unfoldable pub with_answer : ℕ → ℕ → FoldGains → ℕ → List ℕ → List Float → Answer
unfolding gains_in_range channels applies some_unknown some_outside some_pair needed times
with_answer src dst g n pairs gains = first (with_tests src dst g n pairs gains) (Ok tt)

-- The entries, row after row. Of a pair that the table covers they are the table's, whatever the flag.
unfoldable pub with_entries : ℕ → ℕ → FoldGains → Bool → List ℕ → List Float → List Float
unfolding applies table_entry entries_of
with_entries src dst g normalise pairs gains = cond (applies src dst) (table_entry pairs gains src dst) (entries_of src dst g normalise)

-- the area after the call: the entries, and the rest as it was
unfoldable pub with_area : ℕ → ℕ → FoldGains → Bool → List ℕ → List Float → List Float → List Float
unfolding with_answer with_entries channels
with_area src dst g normalise pairs gains area =
    area_after (with_answer src dst g (length area) pairs gains) (with_entries src dst g normalise pairs gains ++ drop (channels dst * channels src) area) area
