-- `node_areas::advance` meets its contract. After i turns the first i values of cur have moved on. Assumes nothing.
use Prim.Native.Nat.{◌-◌, ◌≤◌}
use mathlib.Core.Path.{◌≡◌}
use lib.ListN.{length}
use lib.Seq.{sets}
use Rattle.node_areas.specs.Loops.{cur_row}
use Rattle.node_areas.proofs.advance.Given as goal

abbrev pub invariant-loop-i : goal.invariant-loop-i
invariant-loop-i l = (l.i ≤ l.len) × (l.floats ≡ sets l.initial.floats l.at (cur_row l.initial.floats l.at l.m l.i)) × (length l.floats ≡ length l.initial.floats)

abbrev pub decreases-loop-i : goal.decreases-loop-i
decreases-loop-i l = l.len - l.i
