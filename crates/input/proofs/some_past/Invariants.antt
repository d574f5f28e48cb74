-- `input::some_past` meets its contract: no entry from i on has a part past the samples. Assumes nothing.
use mathlib.Core.Path.{◌≡◌}
use Rattle.input.specs.Input.{some_past}
use Rattle.input.proofs.some_past.Given as goal

abbrev pub invariant-loop-i : goal.invariant-loop-i
invariant-loop-i l = some_past l.directory l.m l.n ≡ some_past l.directory l.m l.i
