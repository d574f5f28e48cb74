-- The sizes of a node in document 01's section "Node", each said here alone. Definitions only.
use Rattle.std.specs.Prelude.{ℕ, Bool, ltb}

-- the most values of a node: the places of each of its three rows
abbrev pub max_values : ℕ
max_values = 24

-- the floats of a node in the lent areas: cur, target, step
abbrev pub node_float_count : ℕ
node_float_count = 72

-- the words of a node in the lent areas: id, len, left, safe
abbrev pub node_word_count : ℕ
node_word_count = 4

-- the samples of the longest ramp: an f32 holds every whole number up to it
abbrev pub max_ramp : ℕ
max_ramp = 16777216

-- the test of number 10: "ramp too long"
abbrev pub ramp_too_long : ℕ → Bool
ramp_too_long ramp = ltb max_ramp ramp

-- the highest value of the word safe of a node, a term of request C-13: "safe, 0 or 1". At 1 no adoption touches the node.
abbrev pub max_safe : ℕ
max_safe = 1

-- "any other value is 14"
abbrev pub safe_too_high : ℕ → Bool
safe_too_high safe = ltb max_safe safe
