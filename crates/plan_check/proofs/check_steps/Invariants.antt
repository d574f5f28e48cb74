-- `plan_check::check_steps` meets its contract. At i the tests of the steps from i on answer as those of all of them do, and the channels of those before it are counted. Assumes nothing.
use mathlib.Core.Path.{◌≡◌}
use Prim.Native.Nat.{◌+◌, ◌-◌}
use Rattle.refusal.specs.Tests.{first}
use Rattle.plan.specs.Check.{steps_tests}
use Rattle.plan.proofs.Counting.{Counting}
use Rattle.plan_check.proofs.check_steps.Given as goal
use Rattle.std.specs.Prelude.{Ok}

abbrev pub invariant-loop-i : goal.invariant-loop-i
invariant-loop-i l =
    Counting l.words l.indices.plan.steps l.total l.at l.i
    × (first (steps_tests l.indices.plan l.indices.list.now l.words l.indices.plan.steps 0 1) (Ok tt) ≡ first (steps_tests l.indices.plan l.indices.list.now l.words (l.indices.plan.steps - l.i) l.at (l.i + 1)) (Ok tt))
