-- `input::search_ends` meets its contract: the invariant is that the entries before `entry` were gone through. Assumes nothing.
use Prim.Native.Nat.{◌-◌, ◌≤◌}
use Rattle.input.specs.Loops.{Ends}
use Rattle.input.proofs.search_ends.Given as goal

abbrev pub invariant-loop-entry : goal.invariant-loop-entry
invariant-loop-entry l = (l.entry ≤ l.n) × Ends l.directory l.entry l.ends

abbrev pub decreases-loop-entry : goal.decreases-loop-entry
decreases-loop-entry l = l.n - l.entry
