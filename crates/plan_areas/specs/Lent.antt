-- The areas that are lent with a plan, as the code holds them. Definitions only.
use Rattle.plan.specs.Areas.{areas}
use Rattle.plan.specs.Areas as lists
use Rattle.plan_areas.specs.declared.Areas.{Areas}

-- what lies behind their references
abbrev pub areas_of : Areas → lists.Areas
areas_of a = areas a.indices.now a.coefficients.now a.node_floats.now a.node_words.now a.steps.now a.buffers.now
