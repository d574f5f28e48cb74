-- `signals::digest::with_frame` meets its contract. The loop's invariant: the blocks before those left are in. Assumes nothing.
use mathlib.Core.Path.{◌≡◌}
use Rattle.std.specs.Slice.Iter.{chunks_exact_rest, chunks_exact_size}
use Rattle.signals.proofs.Laws.{Going}
use Rattle.signals.proofs.digest.with_frame.Given as goal

abbrev pub invariant-loop-block : goal.invariant-loop-block
invariant-loop-block l = (chunks_exact_size l.block-iterator ≡ 256) × Going l.digest-2 l.blocks l.k (chunks_exact_rest l.block-iterator) l.digest
