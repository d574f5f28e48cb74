-- `node::Node::gain` meets its contract: by the test on left. Assumes nothing.
use borrow.Author.Tests.{eq-eqb, ne_eqb}
use Rattle.node.specs.Nodes.{gain_of}
use Rattle.node.proofs.Node.gain.Goals as goal

pub returns-then-self-eq0 : goal.returns-then-self-eq0
unfolding gain_of
returns-then-self-eq0 c = simp (eq-eqb _ _ c.if-self-eq0.true)

pub returns-else-self-eq0 : goal.returns-else-self-eq0
unfolding gain_of
returns-else-self-eq0 c = simp (ne_eqb _ _ c.if-self-eq0.false)
