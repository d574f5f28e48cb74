-- `mix_buffers::buffers::clear` meets its contract: the invariant is that what is left to clear makes the whole. Assumes nothing.
use mathlib.Core.Path.{◌≡◌}
use Prim.Native.Nat.{◌≤◌}
use lib.ListN.{length, drop}
use Rattle.mix.specs.Mix.{cleared}
use Rattle.mix_buffers.proofs.buffers.clear.Given as goal

abbrev pub invariant-loop-d : goal.invariant-loop-d
invariant-loop-d l = (l.d-index ≤ length l.dst) × (length l.area ≡ length l.initial.area) × (cleared l.block (drop l.d-index l.dst) l.area ≡ cleared l.block l.dst l.initial.area)
