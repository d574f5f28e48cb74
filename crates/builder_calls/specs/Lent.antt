-- A builder with the areas that its calls are lent, as one state. Definitions only.
use Rattle.std.specs.Prelude.{◌≡◌}
use Rattle.builder.specs.Built.{BuilderState, builder_state}
use Rattle.builder_calls.specs.declared.areas.PlanAreas.{PlanAreas}

abbrev pub state_of : PlanAreas → BuilderState
state_of b = builder_state b.builder.plan b.indices.now b.coefficients.now b.floats.now b.words.now b.steps.now

-- each area is still the one that it was
abbrev pub SameAreas : PlanAreas → PlanAreas → Type 0
SameAreas old new =
    (new.indices.ghost_name ≡ old.indices.ghost_name)
    × (new.coefficients.ghost_name ≡ old.coefficients.ghost_name)
    × (new.floats.ghost_name ≡ old.floats.ghost_name)
    × (new.words.ghost_name ≡ old.words.ghost_name)
    × (new.steps.ghost_name ≡ old.steps.ghost_name)
