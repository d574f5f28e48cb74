-- A build: `new`, a list of builder calls, inserts among them, and `finish`, in lent areas of any content and length. Definitions only.
use Rattle.std.specs.Prelude.{ℕ, ◌≡◌, List, [], ◌∷◌, map, length, Ok}
use Rattle.plan.specs.Limits.{unit_limits}
use Rattle.plan.specs.Areas.{Areas}
use Rattle.builder.specs.Calls.{new_answer, empty_plan, finish_answer, finish_area}
use Rattle.builder.specs.Built.{buffers, coefficients, node, step, Asked, asked, BuilderState}
use Rattle.insert.specs.Layout.{LayoutCall, single, insert, laid, accepted_layout}
use Rattle.run.specs.Calls.{Fixed, Changing}

pub record Build : Type 0 where
  pub block : ℕ
  pub lent : Areas
  pub calls : List LayoutCall

-- the calls of a build as they are tested: each by the unit's limits
abbrev pub unit_calls : List LayoutCall → List (Asked LayoutCall)
unit_calls = map (asked unit_limits)

-- the plan and the areas after `new`, and after the calls, of which a refused one changes nothing
abbrev pub begun : Build → BuilderState
begun b =
    record {
      plan = empty_plan b.block;
      indices = b.lent.indices;
      coefficients = b.lent.coefficients;
      floats = b.lent.node_floats;
      words = b.lent.node_words;
      steps = b.lent.step_words;
    }

abbrev pub after_calls : Build → BuilderState
after_calls b = laid (begun b) (unit_calls b.calls)

-- the calls that were accepted, in order
abbrev pub accepted_calls : Build → List LayoutCall
accepted_calls b = accepted_layout (begun b) (unit_calls b.calls)

-- `new` and `finish` are accepted
pub record Finished (b : Build) : Type 0 where
  pub new : new_answer b.block ≡ Ok tt
  pub finish : finish_answer unit_limits (after_calls b).plan (length b.lent.buffers) ≡ Ok tt

-- "each list starts at the plan that `finish` left": its record and the areas that no later call writes, and those that later calls write
abbrev pub fixed : Build → Fixed
fixed b = record { plan = (after_calls b).plan; indices = (after_calls b).indices; coefficients = (after_calls b).coefficients; steps = (after_calls b).steps }

abbrev pub changing : Build → Changing
changing b = record { floats = (after_calls b).floats; words = (after_calls b).words; buffers = finish_area unit_limits (after_calls b).plan b.lent.buffers }

-- every ramp given to the builder is 0
abbrev pub NoRampBuilt : List LayoutCall → Type 0
NoRampBuilt [] = Unit {0}
NoRampBuilt (single (buffers n) ∷ cs) = NoRampBuilt cs
NoRampBuilt (single (coefficients xs) ∷ cs) = NoRampBuilt cs
NoRampBuilt (single (node id values ramp safe) ∷ cs) = (ramp ≡ 0) × NoRampBuilt cs
NoRampBuilt (single (step words) ∷ cs) = NoRampBuilt cs
NoRampBuilt (insert i ∷ cs) = (i.ramp ≡ 0) × NoRampBuilt cs
