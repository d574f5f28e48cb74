-- `run_kinds::kinds::run_node` meets its contract. Assumes nothing.
use native.Mathlib.Omega.{arith}
use Rattle.run_kinds.proofs.Fits.{node_room, node_len}
use Rattle.run_kinds.proofs.kinds.run_node.Goals as goal

pub end_block-requires : goal.end_block-requires
end_block-requires g c =
    let f = c.requires.node_fit in
    (node_room f, node_len f, omega (arith, f.block))
