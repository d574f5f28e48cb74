-- `signals::inputs::play` meets its contract. The loop's invariant: the first c channels are stored. Assumes nothing.
use Prim.Native.Nat.{◌≤◌}
use mathlib.Core.Path.{◌≡◌}
use Rattle.signals.specs.Signals.{played}
use Rattle.signals.proofs.inputs.play.Given as goal

abbrev pub invariant-loop-c : goal.invariant-loop-c
invariant-loop-c l = (l.c ≤ 16) × (l.samples ≡ played 256 l.from l.c l.initial.samples)
