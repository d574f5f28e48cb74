-- `input::lookup_below` meets its contract. Assumes nothing.
use mathlib.Core.Path.{◌≡◌}
use Prim.Native.Nat.{◌≤◌}
use Rattle.input.specs.Input.{lookup_below}
use Rattle.input.proofs.lookup_below.Given as goal

abbrev pub invariant-loop-left : goal.invariant-loop-left
invariant-loop-left l =
    (l.left ≤ l.n) × (lookup_below l.directory l.samples l.input l.channel l.n ≡ lookup_below l.directory l.samples l.input l.channel l.left)

abbrev pub decreases-loop-left : goal.decreases-loop-left
decreases-loop-left l = l.left
