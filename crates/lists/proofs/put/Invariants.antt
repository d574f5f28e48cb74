-- `lists::put` meets its contract: the loop's invariant: the first i of the values are stored. Assumes nothing.
use mathlib.Core.Path.{◌≡◌}
use lib.ListN.{take}
use lib.Seq.{sets}
use Rattle.lists.proofs.put.Given as goal

abbrev pub invariant-loop-i : goal.invariant-loop-i
invariant-loop-i g l = l.area ≡ sets l.initial.area l.at (take l.i l.values)
