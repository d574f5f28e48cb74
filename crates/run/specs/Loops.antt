-- What the contracts of the functions of crate `run_process` below `process` cite: what the steps take for granted. Definitions only.
use Rattle.std.specs.Prelude.{ℕ, ◌*◌, ◌≤◌, ◌≡◌, false, List, length, Float}
use Rattle.node.specs.Areas.{Room, some_bad}
use Rattle.plan.specs.declared.Plan.{Plan}
use Rattle.plan.specs.declared.Step.{Step}
use Rattle.plan.specs.Limits.{max_block, unit_limits}
use Rattle.plan.specs.Sound.{Narrow, Apart, Placed}
use Rattle.run.specs.Run.{State}

-- ---- what the tests said

-- of the plan and its areas, at any step
pub record Fit (p : Plan) (coefficients : List Float) (s : State) : Type 0 where
  pub block : p.block ≤ max_block
  pub steps : p.steps ≤ unit_limits.steps
  pub weights : p.coefficients ≤ length coefficients
  pub room : Room p.nodes s.floats s.words
  pub good : some_bad s.words p.nodes ≡ false
  pub buffers : p.buffers * p.block ≤ length s.buffers

-- and of one step
pub record FitStep (p : Plan) (indices : List ℕ) (coefficients : List Float) (s : State) (x : Step) : Type 0 where
  pub fit : Fit p coefficients s
  pub inside : Placed p indices x
  pub narrow : Narrow x
  pub apart : Apart indices x
