-- `format_fold::put` meets its contract: the loop's invariant: the first i places hold the first i entries, rounded. Assumes nothing.
use mathlib.Core.Path.{◌≡◌}
use Rattle.lists.proofs.Filled.{filled}
use Rattle.rounding.specs.Narrow.{narrowed}
use Rattle.format_fold.proofs.put.Given as goal

abbrev pub invariant-loop-i : goal.invariant-loop-i
invariant-loop-i l = l.out ≡ filled narrowed l.entries l.i l.initial.out
