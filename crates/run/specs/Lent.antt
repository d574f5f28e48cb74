-- What a run only reads, as the code holds it, and its steps. Definitions only.
use Rattle.std.specs.Prelude.{◌*◌, ◌≤◌, length, map}
use Rattle.plan.specs.declared.Step.{Step}
use Rattle.plan.specs.Words.{decoded}
use Rattle.plan.specs.Resolved.{Resolved, resolved}
use Rattle.plan.specs.Sound.{Passes}
use Rattle.plan.specs.Loops.{channels_of}
use Rattle.input.specs.Input.{lookup}
use Rattle.run.specs.declared.Given.{Given}
use Rattle.run.specs.Run.{RunGiven, given, State, stepped, run_steps}
use Rattle.run.specs.Loops.{Fit, FitStep}

-- what lies behind the references
abbrev pub given_by : Given → RunGiven
given_by g = given g.plan g.indices.now g.coefficients.now g.steps.now g.directory.now g.samples.now

-- ---- with a run's own plan and areas

abbrev pub resolved_in : RunGiven → Step → Resolved
resolved_in g = resolved g.plan g.indices g.coefficients

-- the state after a step
abbrev pub stepped_in : RunGiven → Step → State → State
stepped_in g x = stepped g.plan.block (lookup g.directory g.samples) (resolved_in g x)

-- and after all steps of the step words
abbrev pub run_in : RunGiven → State → State
run_in g = run_steps g.plan.block (lookup g.directory g.samples) (map (resolved_in g) (decoded g.steps g.plan.steps))

-- ---- what the tests said of it

-- of the plan and of every step
abbrev pub RunTested : RunGiven → State → Type 0
RunTested g s = Fit g.plan g.coefficients s × Passes g.plan g.indices g.steps g.plan.steps 0

-- and of one step
abbrev pub StepTested : RunGiven → State → Step → Type 0
StepTested g s x = FitStep g.plan g.indices g.coefficients s x

-- the channels of all Outputs have room
abbrev pub OutputRoom : RunGiven → State → Type 0
OutputRoom g s = channels_of (decoded g.steps g.plan.steps) * g.plan.block ≤ length s.output
