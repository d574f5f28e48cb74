-- `run_kinds::patch` meets its contract. Assumes nothing.
use mathlib.Core.Path.{◌∙◌}
use Rattle.run_kinds.proofs.Fits.{patched_absent, patched_whole}
use Rattle.run_kinds.proofs.patch.Goals as goal

pub returns-then-part-block : goal.returns-then-part-block
returns-then-part-block c = let a = c.args in c.fill_buffer.ensures ∙ patched_absent a.block a.dst a.part.now a.buffers.now c.if-part-block.true

pub returns : goal.returns
returns c = let a = c.args in c.copy_buffer.ensures ∙ patched_whole a.block a.dst a.part.now a.buffers.now c.if-part-block.false
