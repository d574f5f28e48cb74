-- `desk_nodes::start_alike` meets its contract. After k turns the first k nodes are counted. Assumes nothing.
use Prim.Native.Nat.{◌≤◌}
use mathlib.Core.Path.{◌≡◌}
use Rattle.desk_nodes.specs.Nodes.{start_alike}
use Rattle.desk_nodes.proofs.start_alike.Given as goal

abbrev pub invariant-loop-k : goal.invariant-loop-k
invariant-loop-k l = (l.k ≤ l.n) × (l.count ≤ l.k) × (l.count ≡ start_alike l.floats l.old_floats l.k)
