-- How much a list of builder calls adds to a plan, and what its calls test as one. Definitions only.
use Rattle.std.specs.Prelude.{ℕ, ◌+◌, ◌≡◌, Bool, false, ◌||◌, List, [], ◌∷◌, ◌++◌, length, Some, None, Option}
use Rattle.lists.specs.Entries.{has}
use Rattle.refusal.specs.Tests.{NoneHolds}
use Rattle.node.specs.Sizes.{ramp_too_long, safe_too_high}
use Rattle.plan.specs.declared.Limits.{Limits}
use Rattle.plan.specs.Check.{id_among}
use Rattle.builder.specs.declared.Growth.{Growth}
use Rattle.builder.specs.declared.Lengths.{Lengths}
use Rattle.builder.specs.Growth.{limit_tests, grows_past, buffers_growth, coefficients_growth, node_growth, step_growth}
use Rattle.builder.specs.Calls.{too_many, record_length, step_own}
use Rattle.builder.specs.Built.{BuilderCall, buffers, coefficients, node, step, BuilderState}

-- ---- the growth

abbrev pub plus : Option ℕ → Option ℕ → Option ℕ
plus None b = b
plus (Some n) None = Some n
plus (Some n) (Some m) = Some (n + m)

abbrev pub sum : Growth → Growth → Growth
sum g h =
    record {
      buffers = plus g.buffers h.buffers;
      indices = plus g.indices h.indices;
      coefficients = plus g.coefficients h.coefficients;
      nodes = plus g.nodes h.nodes;
      steps = plus g.steps h.steps;
      words = plus g.words h.words;
    }

abbrev pub no_growth : Growth
no_growth = record { buffers = None; indices = None; coefficients = None; nodes = None; steps = None; words = None }

abbrev pub growth_of : BuilderCall → Growth
growth_of (buffers n) = buffers_growth n
growth_of (coefficients xs) = coefficients_growth (length xs)
growth_of (node id xs ramp safe) = node_growth
growth_of (step w) = step_growth (record_length w)

abbrev pub growth_of_all : List BuilderCall → Growth
growth_of_all [] = no_growth
growth_of_all (c ∷ cs) = sum (growth_of c) (growth_of_all cs)

-- ---- the ids of the nodes

abbrev pub id_of : BuilderCall → List ℕ
id_of (buffers n) = []
id_of (coefficients xs) = []
id_of (node id xs ramp safe) = id ∷ []
id_of (step w) = []

abbrev pub ids_of : List BuilderCall → List ℕ
ids_of [] = []
ids_of (c ∷ cs) = id_of c ++ ids_of cs

-- number 8 of a list: an id is held by one of the first n nodes, or stands twice in the list
abbrev pub ids_taken : List ℕ → ℕ → List ℕ → Bool
ids_taken words n [] = false
ids_taken words n (id ∷ ids) = id_among words n id || (has ids id || ids_taken words n ids)

-- ---- accepted as one

abbrev pub lengths : BuilderState → Lengths
lengths s =
    record {
      indices = length s.indices;
      coefficients = length s.coefficients;
      node_floats = length s.floats;
      node_words = length s.words;
      step_words = length s.steps;
    }

-- a growth, and nodes of these ids, meet neither 5 nor 2 nor 8
pub record FitsAsOne (l : Limits) (s : BuilderState) (g : Growth) (ids : List ℕ) : Type 0 where
  pub limits : NoneHolds (limit_tests l s.plan g)
  pub areas : grows_past s.plan g (lengths s) ≡ false
  pub new : ids_taken s.words s.plan.nodes ids ≡ false

-- what else a call tests: 7, 10 and 14, 3 and 7
abbrev pub Good : BuilderCall → Type 0
Good (buffers n) = Unit {0}
Good (coefficients xs) = Unit {0}
Good (node id xs ramp safe) = (too_many (length xs) ≡ false) × (ramp_too_long ramp ≡ false) × (safe_too_high safe ≡ false)
Good (step w) = NoneHolds (step_own w)

abbrev pub AllGood : List BuilderCall → Type 0
AllGood [] = Unit {0}
AllGood (c ∷ cs) = Good c × AllGood cs
