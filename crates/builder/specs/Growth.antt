-- How much a builder call adds to a plan, and the tests 5 and 2 that follow from it. Definitions only.
use Rattle.std.specs.Prelude.{ℕ, ◌+◌, Bool, false, ◌||◌, List, [], ◌∷◌, ◌++◌, ltb, Some, None, Option}
use Rattle.refusal.specs.Tests.{Test, test}
use Rattle.node.specs.Sizes.{node_float_count, node_word_count}
use Rattle.plan.specs.declared.Plan.{Plan}
use Rattle.plan.specs.PlanRecord.{plan_with}
use Rattle.plan.specs.declared.Limits.{Limits}
use Rattle.plan.specs.Areas.{shorter}
use Rattle.builder.specs.declared.Growth.{Growth}
use Rattle.builder.specs.declared.Lengths.{Lengths}
use Rattle.refusal.specs.declared.Reason.TheVariants.{OverLimit, ShortArea}

-- a count after the call
abbrev pub count_after : ℕ → Option ℕ → ℕ
count_after count None = count
count_after count (Some n) = count + n

abbrev pub grown : Plan → Growth → Plan
grown p g =
    plan_with p.block (count_after p.buffers g.buffers) (count_after p.indices g.indices) (count_after p.coefficients g.coefficients)
    (count_after p.nodes g.nodes) (count_after p.steps g.steps) (count_after p.words g.words)

-- a test of a count, after the call
abbrev pub tested : (ℕ → Bool) → ℕ → Option ℕ → Bool
tested bad count None = false
tested bad count (Some n) = bad (count + n)

-- ---- number 5: a count above its limit

abbrev pub over : ℕ → ℕ → Option ℕ → Bool
over limit count change = tested (ltb limit) count change

abbrev pub grows_over : Limits → Plan → Growth → Bool
grows_over l p g =
    over l.buffers p.buffers g.buffers
    || over l.indices p.indices g.indices
    || over l.coefficients p.coefficients g.coefficients
    || over l.nodes p.nodes g.nodes
    || over l.steps p.steps g.steps

-- the tests of the limits, in front of a call's others
abbrev pub limit_tests : Limits → Plan → Growth → List Test
limit_tests l p g = test OverLimit (grows_over l p g) ∷ []

-- ---- number 2: an area shorter than the call needs. A call is lent the areas of the counts that it adds to, but for the buffers, which
-- `finish` is lent.

abbrev pub too_short : ℕ → ℕ → Option ℕ → ℕ → Bool
too_short length count change each = tested (λ k. shorter length k each) count change

abbrev pub grows_past : Plan → Growth → Lengths → Bool
grows_past p g l =
    too_short l.indices p.indices g.indices 1
    || too_short l.coefficients p.coefficients g.coefficients 1
    || too_short l.node_floats p.nodes g.nodes node_float_count
    || too_short l.node_words p.nodes g.nodes node_word_count
    || too_short l.step_words p.words g.words 1

-- the tests of a call with this growth: 5, 2, and then its own
abbrev pub growth_tests : Limits → Plan → Growth → Lengths → List Test → List Test
growth_tests l p g lent own = limit_tests l p g ++ test ShortArea (grows_past p g lent) ∷ own

-- ---- the growth of each call

abbrev pub buffers_growth : ℕ → Growth
buffers_growth n = record { buffers = Some n; indices = Some n; coefficients = None; nodes = None; steps = None; words = None }

abbrev pub coefficients_growth : ℕ → Growth
coefficients_growth n = record { buffers = None; indices = None; coefficients = Some n; nodes = None; steps = None; words = None }

abbrev pub node_growth : Growth
node_growth = record { buffers = None; indices = None; coefficients = None; nodes = Some 1; steps = None; words = None }

-- n words
abbrev pub step_growth : ℕ → Growth
step_growth n = record { buffers = None; indices = None; coefficients = None; nodes = None; steps = Some 1; words = Some n }

-- `finish` tests the buffers that there are
abbrev pub finish_growth : Growth
finish_growth = record { buffers = Some 0; indices = None; coefficients = None; nodes = None; steps = None; words = None }
