-- The builder's first call: a builder of an empty plan, also where the block is refused. Definitions only.
use Rattle.std.specs.Prelude.{ℕ, Ok, Err, Result}
use Rattle.refusal.specs.Tests.{outcome}
use Rattle.builder.specs.Calls.{new_answer, empty_plan}
use Rattle.builder_calls.specs.declared.PlanBuilder.{PlanBuilder}
use Rattle.builder_calls.specs.declared.RefusedBlock.{RefusedBlock}

abbrev pub empty_builder : ℕ → PlanBuilder
empty_builder block = record { plan = empty_plan block }

abbrev pub new_builder : ℕ → Result PlanBuilder RefusedBlock
new_builder block = outcome (new_answer block) (Ok (empty_builder block)) (λ r. Err (record { refusal = r; builder = empty_builder block }))
