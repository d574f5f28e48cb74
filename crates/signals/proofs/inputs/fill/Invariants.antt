-- `signals::inputs::fill` meets its contract. The loop's invariant: the first k samples are stored. Assumes nothing.
use Prim.Native.Nat.{◌-◌, ◌≤◌}
use mathlib.Core.Path.{◌≡◌}
use Rattle.signals.specs.Signals.{filled}
use Rattle.signals.proofs.inputs.fill.Given as goal

abbrev pub invariant-loop-k : goal.invariant-loop-k
invariant-loop-k l = (l.k ≤ 256) × (l.samples ≡ filled l.pitch l.from l.at l.k l.initial.samples)

abbrev pub decreases-loop-k : goal.decreases-loop-k
decreases-loop-k l = 256 - l.k
