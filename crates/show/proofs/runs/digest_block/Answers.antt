-- `show::runs::digest_block` meets its contract: a format has at most 12 channels. Assumes nothing.
use native.Mathlib.Omega.{arith}
use Rattle.format.proofs.Labels.{channels_le}
use Rattle.show.proofs.runs.digest_block.Goals as goal

pub overflow_mul-n : goal.overflow_mul-n
overflow_mul-n c = omega (arith, c.channels-n.ensures, channels_le c.slot_at.result.0)
