-- The record of a plan, which the definitions write out here alone. Definitions only.
use Rattle.std.specs.Prelude.{ℕ, ◌+◌}
use Rattle.plan.specs.declared.Plan.{Plan}

abbrev pub plan_with : (block buffers indices coefficients nodes steps words : ℕ) → Plan
plan_with block buffers indices coefficients nodes steps words =
    record {
      block = block;
      buffers = buffers;
      indices = indices;
      coefficients = coefficients;
      nodes = nodes;
      steps = steps;
      words = words;
    }

-- the same plan for blocks of n samples
abbrev pub with_block : Plan → ℕ → Plan
with_block p n = plan_with n p.buffers p.indices p.coefficients p.nodes p.steps p.words

-- a plan that counts m words more
abbrev pub longer : ℕ → Plan → Plan
longer m p = plan_with p.block p.buffers p.indices p.coefficients p.nodes p.steps (p.words + m)
