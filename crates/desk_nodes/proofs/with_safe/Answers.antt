-- `desk_nodes::with_safe` meets its contract. Assumes nothing.
use mathlib.Core.Path.{ap, ◌∙◌}
use Rattle.node.specs.declared.Node.{Node}
use Rattle.node.specs.Areas.{node_at}
use Rattle.desk_nodes.proofs.Laws.{safe_there}
use Rattle.desk_nodes.proofs.with_safe.Goals as goal

pub returns : goal.returns
unfolding node_at
returns c =
    let a = c.args in
    safe_there a.floats.now a.words.now a.n a.digest (λ h. c.if-node-eq0.false (ap (λ (m : Node). m.safe) c.load-node.ensures ∙ h)) c.of_samples-rows.ensures c.of_words.ensures
