-- `node::Gain::on_ramp` meets its contract: by the arm that the match took. Assumes nothing.
use Rattle.node.specs.Nodes.{ramping}
use Rattle.node.proofs.Gain.on_ramp.Goals as goal

pub returns-in-Rest : goal.returns-in-Rest
unfolding ramping
returns-in-Rest c = rw c.in-Rest.is

pub returns-in-Moving : goal.returns-in-Moving
unfolding ramping
returns-in-Moving c = rw c.in-Moving.is
