-- `format_fold::row_sum` meets its contract: the loop's invariant: what is left of the row leads to the definition's sum. Assumes nothing.
use mathlib.Core.Path.{◌≡◌}
use lib.ListN.{drop}
use Rattle.format.specs.Floats.{zero64}
use Rattle.format_fold.specs.Width.{row_sum}
use Rattle.format_fold.proofs.row_sum.Given as goal

abbrev pub invariant-loop-x : goal.invariant-loop-x
invariant-loop-x l = row_sum l.sum (drop l.x-index l.row) ≡ row_sum zero64 l.row
