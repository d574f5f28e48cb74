-- `run_kinds::kinds::SendKind::mix` meets its contract. Assumes nothing.
use Rattle.run_kinds.proofs.Fits.{step_apart}
use Rattle.run_kinds.proofs.kinds.SendKind.mix.Goals as goal

pub send-requires-clause-buffers : goal.send-requires-clause-buffers
send-requires-clause-buffers c = step_apart c.requires.node_fit c.requires.tested.0 c.numbers-from.ensures c.numbers-to.ensures
