-- `format_fold::divided` meets its contract: the loop's invariant: the entries so far are divided. Assumes nothing.
use mathlib.Core.Path.{◌≡◌}
use lib.Ieee.{Float, binary64, div}
use Rattle.lists.proofs.Filled.{filled}
use Rattle.format_fold.proofs.divided.Given as goal

abbrev pub invariant-loop-x : goal.invariant-loop-x
invariant-loop-x l = l.x-items ≡ filled (λ (x : Float). div binary64 x l.by) l.initial.x-items l.x-index l.initial.x-items
