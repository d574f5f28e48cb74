-- `node::Node::start_ramp` meets its contract. After i turns step has its first i values. Assumes nothing.
use Prim.Native.Nat.{◌≤◌, ◌-◌}
use mathlib.Core.Path.{◌≡◌}
use Rattle.node.proofs.Loops.{step_upto}
use Rattle.node.proofs.Node.start_ramp.Given as goal

abbrev pub invariant-loop-i : goal.invariant-loop-i
invariant-loop-i l = (l.i ≤ l.end) × (l.self ≡ step_upto l.initial.self l.ramp l.i)

abbrev pub decreases-loop-i : goal.decreases-loop-i
decreases-loop-i l = l.end - l.i
