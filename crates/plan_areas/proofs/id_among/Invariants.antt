-- `plan_areas::id_among` meets its contract. No node from i on has the id. Assumes nothing.
use mathlib.Core.Path.{◌≡◌}
use Rattle.plan.specs.Check.{id_among}
use Rattle.plan_areas.proofs.id_among.Given as goal

abbrev pub invariant-loop-i : goal.invariant-loop-i
invariant-loop-i l = id_among l.words l.n l.id ≡ id_among l.words l.i l.id
