-- The areas that are lent with a plan ('lent area' is document 01's term), and whether one is too short. Definitions only.
use Rattle.std.specs.Prelude.{ℕ, ◌*◌, Bool, ◌||◌, List, ltb, length, Float}
use Rattle.node.specs.Sizes.{node_float_count, node_word_count}
use Rattle.plan.specs.declared.Plan.{Plan}

pub record Areas : Type 0 where
  pub indices : List ℕ
  pub coefficients : List Float
  pub node_floats : List Float
  pub node_words : List ℕ
  pub step_words : List ℕ
  pub buffers : List Float

abbrev pub areas : List ℕ → List Float → List Float → List ℕ → List ℕ → List Float → Areas
areas indices coefficients floats words steps buffers =
    record { indices = indices; coefficients = coefficients; node_floats = floats; node_words = words; step_words = steps; buffers = buffers }

-- an area of n places is shorter than `count` entries of `each` places
abbrev pub shorter : ℕ → ℕ → ℕ → Bool
shorter n count each = ltb n (count * each)

-- number 2's test of a call that is lent all six areas
abbrev pub short_areas : Plan → Areas → Bool
short_areas p a =
    shorter (length a.indices) p.indices 1
    || shorter (length a.coefficients) p.coefficients 1
    || shorter (length a.node_floats) p.nodes node_float_count
    || shorter (length a.node_words) p.nodes node_word_count
    || shorter (length a.step_words) p.words 1
    || shorter (length a.buffers) p.buffers p.block

-- and of one that is lent the index list, the node words and the step words
abbrev pub short_lists : Plan → List ℕ → List ℕ → List ℕ → Bool
short_lists p indices words steps =
    shorter (length indices) p.indices 1 || shorter (length words) p.nodes node_word_count || shorter (length steps) p.words 1
