-- `mix_buffers::gains::gain` meets its contract: the invariant is that the channels that are left make the whole. Assumes nothing.
use mathlib.Core.Path.{◌≡◌}
use lib.ListN.{length, drop}
use Rattle.node.specs.Rows.{gain_in}
use Rattle.mix.specs.Mix.{gained}
use Rattle.mix_buffers.proofs.gains.gain.Given as goal

abbrev pub invariant-loop-c : goal.invariant-loop-c
invariant-loop-c l = (length l.area ≡ length l.initial.area) × (gained l.block (gain_in l.node) (length l.yielded) (drop (length l.yielded) l.src) (drop (length l.yielded) l.dst) l.area ≡ gained l.block (gain_in l.node) 0 l.src l.dst l.initial.area)
