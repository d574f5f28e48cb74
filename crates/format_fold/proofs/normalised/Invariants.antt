-- `format_fold::normalised` meets its contract: the loop's invariant: the rows that are left lead to the definition's maximum. Assumes nothing.
use mathlib.Core.Path.{◌≡◌}
use Rattle.std.specs.Slice.Iter.{chunks_exact_rest, chunks_exact_size}
use Rattle.format.specs.Floats.{zero64}
use Rattle.format_fold.specs.Width.{largest}
use Rattle.format_fold.proofs.Rows.{RowsLeft}
use Rattle.format_fold.proofs.normalised.Given as goal

abbrev pub invariant-loop-row : goal.invariant-loop-row
invariant-loop-row l =
    (chunks_exact_size l.row-iterator ≡ l.columns)
    × RowsLeft l.columns l.most (chunks_exact_rest l.row-iterator) (largest zero64 l.columns l.rows l.fn.m.entries)
