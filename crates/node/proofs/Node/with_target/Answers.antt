-- `node::Node::with_target` meets its contract: the start of the values goes over that of target. Assumes nothing.
use mathlib.Core.Path.{◌≡◌, ap}
use mathlib.Core.List.{List}
use native.Mathlib.Omega.{arith}
use lib.ListN.{length}
use lib.Ieee.{Float}
use borrow.Author.Rules.{rules}
use Rattle.node.specs.Sizes.{max_values}
use Rattle.node.specs.Nodes.{changed}
use Rattle.node.proofs.Loops.{start_upto}
use Rattle.node.proofs.Node.with_target.Goals as goal

pub returns : goal.returns
returns c =
    let a = c.args in
    let n = c.min-n in
    let full : length a.self.target ≡ max_values = search rules in
    ap (λ (t : List Float). changed a.self a.self.cur t a.self.step a.self.left)
    (rw (c.copy_from_slice.ensures.after, n.ensures)
    (start_upto _ a.values.now a.self.target (omega arith) (omega (arith, full, c.requires))))
