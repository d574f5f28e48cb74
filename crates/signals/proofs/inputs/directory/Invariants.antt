-- `signals::inputs::directory` meets its contract. The loop's invariant: the entries of the first c channels are stored. Assumes nothing.
use Prim.Native.Nat.{◌≤◌}
use mathlib.Core.Path.{◌≡◌}
use lib.ListN.{length}
use Rattle.signals.specs.Signals.{entered}
use Rattle.signals.proofs.inputs.directory.Given as goal

abbrev pub invariant-loop-c : goal.invariant-loop-c
invariant-loop-c l = (l.c ≤ 16) × (length l.entries ≡ length l.initial.entries) × (l.entries ≡ entered 256 l.c l.initial.entries)
