-- `node::Node::finish_block` meets its contract. After i turns the first i values of cur have moved on. Assumes nothing.
use Prim.Native.Nat.{◌≤◌, ◌-◌}
use mathlib.Core.Path.{◌≡◌}
use Rattle.node.proofs.Loops.{cur_upto}
use Rattle.node.proofs.Node.finish_block.Given as goal

abbrev pub invariant-loop-i : goal.invariant-loop-i
invariant-loop-i l = (l.i ≤ l.len) × (l.self ≡ cur_upto l.initial.self l.n l.i)

abbrev pub decreases-loop-i : goal.decreases-loop-i
decreases-loop-i l = l.len - l.i
