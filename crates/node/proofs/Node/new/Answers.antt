-- `node::Node::new` meets its contract: it is `set` of the node at zero. Assumes nothing.
use Prim.Native.Nat.{ℕ}
use mathlib.Core.Path.{ap, ◌∙◌}
use lib.Ieee.{of_bits, of_int}
use Rattle.node.specs.Nodes.{new_node, set_node, zero_node}
use Rattle.node.proofs.Node.new.Goals as goal

pub returns : goal.returns
unfolding new_node of_bits of_int
returns c =
    let a = c.args in
    c.set.ensures ∙ ap (λ (l : ℕ). set_node (zero_node a.id l a.safe) a.values.now a.ramp) c.min.ensures
