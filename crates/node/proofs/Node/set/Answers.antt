-- `node::Node::set` meets its contract: by the test on the ramp. Assumes nothing.
use mathlib.Core.Path.{◌≡◌, ◌∙◌}
use native.Mathlib.Omega.{arith}
use borrow.Author.Tests.{eq-eqb, ne_eqb}
use borrow.Author.Rules.{rules}
use Rattle.node.specs.Nodes.{set_node}
use Rattle.node.proofs.Node.set.Goals as goal

pub returns-then-ramp-eq0 : goal.returns-then-ramp-eq0
unfolding set_node
returns-then-ramp-eq0 c =
    let none : c.args.ramp ≡ 0 = omega (arith, c.if-ramp-eq0.true) in
    c.at_target.ensures ∙ rw (c.with_target-node.ensures, eq-eqb _ _ none)

pub start_ramp-requires : goal.start_ramp-requires
start_ramp-requires c = rw c.with_target-node.ensures (search rules)

pub returns : goal.returns
unfolding set_node
returns c = c.start_ramp.ensures ∙ rw (c.with_target-node.ensures, ne_eqb _ _ c.if-ramp-eq0.false)
