-- The limits of document 01's section "Plan record". Definitions only.
use Rattle.std.specs.Prelude.{ℕ, Bool, ◌||◌, ltb}
use Rattle.plan.specs.declared.Plan.{Plan}
use Rattle.plan.specs.declared.Limits.{Limits}

-- a block has 1 to 1,024 samples
abbrev pub max_block : ℕ
max_block = 1024

-- inputs are 0 to 255, slots 0 to 31
abbrev pub inputs : ℕ
inputs = 256

abbrev pub slots : ℕ
slots = 32

abbrev pub unit_limits : Limits
unit_limits = record { buffers = 256; indices = 1024; coefficients = 1024; nodes = 64; steps = 512 }

-- number 1's test
abbrev pub bad_block : ℕ → Bool
bad_block block = ltb block 1 || ltb max_block block

-- number 5's test of a whole plan
abbrev pub over_limits : Limits → Plan → Bool
over_limits l p =
    ltb l.buffers p.buffers
    || ltb l.indices p.indices
    || ltb l.coefficients p.coefficients
    || ltb l.nodes p.nodes
    || ltb l.steps p.steps
