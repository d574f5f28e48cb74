-- `node_areas::load` meets its contract, by what `load_row` ensures of each row. Assumes nothing.
use Rattle.node.specs.Areas.{node_at}
use Rattle.node_areas.proofs.load.Goals as goal

pub returns : goal.returns
unfolding node_at
returns c = cc
