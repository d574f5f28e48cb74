-- `plan_areas::id_twice` meets its contract. No node from `later` on has the id of one before it. Assumes nothing.
use mathlib.Core.Path.{◌≡◌}
use Rattle.plan.specs.Check.{id_twice}
use Rattle.plan_areas.proofs.id_twice.Given as goal

abbrev pub invariant-loop-later : goal.invariant-loop-later
invariant-loop-later l = id_twice l.words l.n ≡ id_twice l.words l.later
