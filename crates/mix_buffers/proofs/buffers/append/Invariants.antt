-- `mix_buffers::buffers::append` meets its contract: the invariant is that what is left to append makes the whole. Assumes nothing.
use mathlib.Core.Path.{◌≡◌}
use Prim.Native.Nat.{◌+◌, ◌-◌, ◌*◌, ◌≤◌}
use lib.ListN.{length, drop}
use Rattle.mix.specs.Mix.{appended}
use Rattle.mix_buffers.proofs.buffers.append.Given as goal

abbrev pub invariant-loop-c : goal.invariant-loop-c
invariant-loop-c l = (l.c ≤ l.c-end) × (length l.output ≡ length l.initial.output) × (appended l.block l.area (drop l.c l.src) (l.at + l.c * l.block) l.output ≡ appended l.block l.area l.src l.at l.initial.output)

abbrev pub decreases-loop-c : goal.decreases-loop-c
decreases-loop-c l = l.c-end - l.c
