-- `builder_areas::put_numbers` meets its contract. The loop's invariant: the first i numbers are stored. Assumes nothing.
use mathlib.Core.Path.{◌≡◌}
use lib.ListN.{take}
use lib.Seq.{sets}
use Rattle.builder.specs.Calls.{numbers_from}
use Rattle.builder_areas.proofs.put_numbers.Given as goal

abbrev pub invariant-loop-i : goal.invariant-loop-i
invariant-loop-i l = l.place-items ≡ sets l.initial.place-items 0 (take l.i (numbers_from l.from l.n))
