-- `desk_nodes::of_safe` meets its contract. After k turns the first k nodes are in the digest. Assumes nothing.
use Prim.Native.Nat.{◌≤◌}
use mathlib.Core.Path.{◌≡◌}
use Rattle.desk_nodes.specs.Nodes.{of_safe}
use Rattle.desk_nodes.proofs.of_safe.Given as goal

abbrev pub invariant-loop-k : goal.invariant-loop-k
invariant-loop-k l = (l.k ≤ l.n) × (l.digest ≡ of_safe l.floats l.words l.k)
